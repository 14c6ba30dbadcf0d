-- Demand 3. Of an accepted file, every store that fits an entry shape and every run from it: the store reached fits a shape
-- listed where it stands; at a point marked excluded the next step doesn't go through null; at one marked unshared no cell
-- is linked from two cells; one marked never reached isn't reached.
use Prim.Native.Nat.{ℕ}
use mathlib.Core.List.{List}
use mathlib.Core.Path.{◌≡◌}
use Rattle.model.specs.Finite.{Some}
use Rattle.model.specs.Store.{Store, Proper}
use Rattle.model.specs.Shape.{Fits}
use Rattle.model.specs.Claim.{Claim, listed, claim}
use Rattle.model.specs.Verdict.{verdict, accepted}
use Rattle.model.specs.Safe.{Reached, Safe, Demand3}
use Rattle.sound.specs.Shown.{Sound, Marked}
use Rattle.sound.proofs.Runs.{runs_fit}
use Rattle.sound.proofs.Accepts.{accepted_sound}
use Rattle.sound.proofs.Marks.{marks_hold}

-- of a claim whose outcomes are all covered, every run stays within the listed shapes (Runs), and so has what the marks say
sound_safe : (C : Claim) → Sound C → Safe C
sound_safe C sound = record {
  fits = λ p σ r. (there p σ r).1;
  excluded = λ p σ r. (marks p σ r).excluded;
  unshared = λ p σ r. (marks p σ r).unshared;
  never_reached = λ p σ r. (marks p σ r).never_reached;
}
  where
    there : (p : ℕ) (σ : Store) → Reached C p σ → Proper C.vars σ × Some (Fits C.vars σ) (listed C p)
    there p σ r = runs_fit C sound r.entry r.proper r.fits p σ r.run

    marks : (p : ℕ) (σ : Store) → Reached C p σ → Marked C p σ
    marks p σ r = marks_hold C sound p σ (there p σ r).0 (there p σ r).1

-- acceptance has shown that all are covered (Accepts)
pub safe : (f : List ℕ) (room a b : ℕ) → verdict f room ≡ accepted a b → Safe (claim f)
safe f room a b ok = sound_safe (claim f) (accepted_sound f room a b ok)

pub demand_3 : Demand3
demand_3 = safe
