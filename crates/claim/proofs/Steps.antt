-- How answers go together: what is refused first decides, and what is fine lets the next decide.
use Prim.Native.Nat.{ℕ, ◌≤◌, ◌<◌}
use mathlib.Core.List.{List}
use mathlib.Core.Path.{◌≡◌, refl}
use borrow.Author.Tests.{le-leb, lt-leb}
use lib.ListN.{length}
use Rattle.model.specs.Format.{Format}
use Rattle.model.specs.File.{Fault, cut_short, Reading, fine, refused, ◌then◌, in_turn, start, shapes, ended}
use Rattle.model.proofs.Fields.{then_stop, then_go, field_cut, field_wrong, field_fine, field_right, in_turn_none, in_turn_more, in_turn_stop}

pub then_refused : (fault : Fault) (place : ℕ) (S : Reading) → refused fault place then S ≡ refused fault place
then_refused fault place S = then_stop S refl

pub then_fine : (S : Reading) → fine then S ≡ S
then_fine S = then_go S refl refl

-- of fields in turn the first that is refused decides
pub turn_refused : (g : ℕ → Reading) (i : ℕ) → in_turn i g ≡ fine → (n : ℕ) (fault : Fault) (place : ℕ) → i < n → g i ≡ refused fault place → in_turn n g ≡ refused fault place
turn_refused g i p n fault place h q = in_turn_stop g n i h p q

-- the last record ends with the file, or there are bytes left over
module _ (F : Format) (f : List ℕ) (end : ℕ) (p : end ≡ start F f (shapes f)) where
  pub ended_fine : length f ≤ end → ended F f ≡ fine
  unfolding ended
  ended_fine h = rw (le-leb _ _ (rw p at h))

  pub ended_cut : end < length f → ended F f ≡ refused cut_short end
  unfolding ended
  ended_cut h = rw (lt-leb _ _ (rw p at h), p)

pub ruleset steps = (then_refused, then_fine)

pub ruleset turns = (steps, in_turn_none, in_turn_more)

pub ruleset one_field = (field_cut, field_wrong, field_fine)
