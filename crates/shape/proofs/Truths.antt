-- A link that is 0 stays 0 where only sure links stay.
use Prim.Native.Nat.{ℕ}
use mathlib.Core.Path.{◌≡◌}
use lib.Dec.{eqb}
use Rattle.model.specs.Truth.{𝟘}
use Rattle.model.specs.Step.{sure_but}
use Rattle.model.proofs.Bools.{by}

pub sure_zero : (u a : ℕ) → sure_but u a 𝟘 ≡ 𝟘
sure_zero u a = by (eqb a u) (λ q. rw q) (λ q. rw q)
