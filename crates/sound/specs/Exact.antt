-- A store as a shape, the exact one: every cell is an individual, none is a summary, and links are 0 or 1.
use Rattle.std.specs.Prelude.{ℕ, false, cond}
use Rattle.model.specs.Truth.{𝟘, 𝟙}
use Rattle.model.specs.Finite.{Ref, is}
use Rattle.model.specs.Store.{Store, shared_by}
use Rattle.model.specs.Shape.{Links, Shape, own_mask}

-- the links f of `size` cells, exactly
abbrev pub seen : ℕ → (ℕ → Ref) → Links
seen size f = record { shared = shared_by size f; link = λ c d. cond (is (f c) d) 𝟙 𝟘 }

abbrev pub exact : ℕ → Store → Shape
exact vars σ = record {
  size = σ.size;
  mask = own_mask vars σ.var;
  summary = λ c. false;
  n = seen σ.size σ.n;
}
