-- Laws of reading a field at a time: three for code (a field is cut short, wrong or right) and two for the theory (what a
-- right field says), and the same for fields in turn.
use Prim.Native.Nat.{ℕ, zero, suc, ◌+◌, ◌≤◌, ◌<◌}
use mathlib.Core.Bool.{Bool, true, false}
use mathlib.Core.List.{List}
use mathlib.Core.Path.{◌≡◌, refl}
use native.Mathlib.Numerals.{add-one}
use native.Mathlib.Omega.{arith}
use lib.Dec.{leb}
use lib.ListN.{length}
use borrow.Author.Tests.{le-leb, lt-leb, leb-true}
use Rattle.model.specs.File.{Fault, cut_short, Reading, fine, refused, ◌then◌, in_turn, field}
use Rattle.model.proofs.Bools.{by, top_or_below}

-- ---- then

pub never : {C : Type 0} {fault : Fault} {a : ℕ} → refused fault a ≡ fine → C
never p = absurd (let z : ◌≡◌ {A = ℕ} 0 1 = cc in omega arith)

pub then_left : (r s : Reading) → r then s ≡ fine → r ≡ fine
unfolding ◌then◌
then_left fine s e = refl
then_left (refused fault a) s e = e

pub then_right : (r s : Reading) → r then s ≡ fine → s ≡ fine
unfolding ◌then◌
then_right fine s e = e
then_right (refused fault a) s e = never e

pub then_stop : {R : Reading} (S : Reading) {fault : Fault} {a : ℕ} → R ≡ refused fault a → R then S ≡ refused fault a
unfolding ◌then◌
then_stop S e = rw e

pub then_go : {R : Reading} (S : Reading) {T : Reading} → R ≡ fine → S ≡ T → R then S ≡ T
unfolding ◌then◌
then_go S e h = rw e h

-- ---- one field

module _ (f : List ℕ) (place width : ℕ) (fault : Fault) (right : Bool) where
  pub field_cut : length f < place + width → field f place width fault right ≡ refused cut_short (length f)
  unfolding field
  field_cut h = rw (lt-leb (place + width) (length f) h)

  pub field_wrong : place + width ≤ length f → right ≡ false → field f place width fault right ≡ refused fault place
  unfolding field
  field_wrong h e = rw (le-leb (place + width) (length f) h, e)

  pub field_fine : place + width ≤ length f → right ≡ true → field f place width fault right ≡ fine
  unfolding field
  field_fine h e = rw (le-leb (place + width) (length f) h, e)

  -- what a field that is fine says
  pub field_there : field f place width fault right ≡ fine → place + width ≤ length f
  unfolding field
  field_there e =
      by (leb (place + width) (length f)) (λ q. leb-true (place + width) (length f) q) (λ q. never (rw q at e))

  pub field_right : field f place width fault right ≡ fine → right ≡ true
  unfolding field
  field_right e =
      by right (λ q. q) (λ q. by (leb (place + width) (length f)) (λ p. never (rw (p, q) at e)) (λ p. never (rw p at e)))

-- ---- in turn

pub in_turn_none : (g : ℕ → Reading) → in_turn 0 g ≡ fine
unfolding in_turn
in_turn_none g = refl

pub in_turn_more : (g : ℕ → Reading) (i : ℕ) → in_turn i g ≡ fine → g i ≡ fine → in_turn (i + 1) g ≡ fine
unfolding in_turn ◌then◌
in_turn_more g i p q = rw (add-one i, p) q

-- what is wrong at i decides, if nothing before is
pub in_turn_stop : (g : ℕ → Reading) (n i : ℕ) {fault : Fault} {a : ℕ} → i < n → in_turn i g ≡ fine → g i ≡ refused fault a → in_turn n g ≡ refused fault a
unfolding in_turn ◌then◌
in_turn_stop g zero i h p q = absurd (omega arith)
in_turn_stop g (suc n) i h p q =
    top_or_below n i h (λ e. rw (rw e at p) (rw e at q)) (λ k. rw (in_turn_stop g n i k p q))

-- each was fine
pub in_turn_each : (g : ℕ → Reading) (n : ℕ) → in_turn n g ≡ fine → (i : ℕ) → i < n → g i ≡ fine
unfolding in_turn
in_turn_each g zero e i h = absurd (omega arith)
in_turn_each g (suc n) e i h =
    top_or_below n i h
    (λ q. rw q (then_right (in_turn n g) (g n) e))
    (λ k. in_turn_each g n (then_left (in_turn n g) (g n) e) i k)
