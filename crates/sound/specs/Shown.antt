-- What is shown of a claim of which acceptance has shown that every outcome is covered: the sentences of demand 3.
use Rattle.std.specs.Prelude.{ℕ, ◌/◌, ◌%◌, ◌<◌, true, false, ◌≡◌}
use Rattle.model.specs.Finite.{at, Some}
use Rattle.model.specs.Store.{Store, Proper, Run, through_null}
use Rattle.model.specs.Shape.{Fits, Allowed, covered}
use Rattle.model.specs.Step.{outcomes}
use Rattle.model.specs.Claim.{Claim, listed}
use Rattle.model.specs.Verdict.{answer_byte}
use Rattle.model.proofs.Lists.{All}
use Rattle.model.proofs.Accepted.{Uses}

-- what acceptance has shown of a claim
pub record Sound (C : Claim) : Type 0 where
  pub uses : (p : ℕ) → Uses C.vars (C.op p)
  pub allowed : (p : ℕ) → All (Allowed C.vars) (listed C p)
  -- "every outcome of every listed shape [lies] under a shape listed at the next point"
  pub covered : (p : ℕ) → All (λ T. All (λ w. Some (λ U. covered w.1 U ≡ true) (listed C w.0)) (outcomes (C.op p) T)) (listed C p)

-- a store reached is proper and fits a shape listed where it stands
abbrev pub FitsOn : Claim → Type 0
FitsOn C = (σ₀ : Store) → Proper C.vars σ₀ → Some (Fits C.vars σ₀) (listed C 0) → (p : ℕ) (σ : Store) → Run C.op σ₀ p σ → Proper C.vars σ × Some (Fits C.vars σ) (listed C p)

-- what a store that is proper and fits a shape listed at p has, by the answer byte of p
pub record Marked (C : Claim) (p : ℕ) (σ : Store) : Type 0 where
  pub excluded : answer_byte C p % 4 ≡ 1 → through_null (C.op p) σ ≡ false
  pub unshared : answer_byte C p / 4 % 2 ≡ 1 → (a b c : ℕ) → a < σ.size → b < σ.size → σ.n a ≡ at c → σ.n b ≡ at c → a ≡ b
  pub never_reached : answer_byte C p ≡ 3 → ⊥

abbrev pub MarksHold : Claim → Type 0
MarksHold C = (p : ℕ) (σ : Store) → Proper C.vars σ → Some (Fits C.vars σ) (listed C p) → Marked C p σ
