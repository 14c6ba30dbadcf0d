-- The order of the truth values as a relation, for proofs about values that are not named.
use Rattle.std.specs.Prelude.{true, ◌≡◌}
use Rattle.model.specs.Truth.{Truth, under}

infix 40 ◌⊑◌
pub record ◌⊑◌ (v w : Truth) : Type 0 where
  pub lies : under v w ≡ true
