-- The mask of a cell: which bits it has, and how it changes when a variable moves.
use Prim.Native.Nat.{ℕ, zero, suc, ◌+◌, ◌*◌, ◌<◌}
use mathlib.Core.Bool.{false, cond}
use mathlib.Core.Path.{◌≡◌, refl, sym, ap, ap₂, ◌∙◌}
use native.Mathlib.Omega.{arith}
use lib.Dec.{eqb, eqb-suc-zero, eqb-zero-suc, eqb-suc-suc}
use Rattle.model.specs.Finite.{Ref, is, bit, put}
use Rattle.model.specs.Store.{change}
use Rattle.model.specs.Shape.{own_mask}
use Rattle.model.proofs.Masks.{low_digit, high_digits, digit_bit}

-- ---- the mask of the cell c

module _ (c : ℕ) where
  -- the variables after the first
  abbrev later : (ℕ → Ref) → ℕ → Ref
  later f x = f (suc x)

  own_cong : (v : ℕ) (f g : ℕ → Ref) → ((y : ℕ) → f y ≡ g y) → own_mask v f c ≡ own_mask v g c
  own_cong zero f g h = refl
  own_cong (suc v) f g h = ap₂ (λ r m. cond (is r c) 1 0 + 2 * m) (h 0) (own_cong v (later f) (later g) (λ y. h (suc y)))

  pub own_bit : (v : ℕ) (f : ℕ → Ref) (x : ℕ) → x < v → bit x (own_mask v f c) ≡ is (f x) c
  own_bit zero f x h = absurd (omega arith)
  own_bit (suc v) f zero h = ap (λ m. eqb m 1) (low_digit (is (f 0) c) (own_mask v (later f) c)) ∙ digit_bit (is (f 0) c)
  own_bit (suc v) f (suc x) h = ap (bit x) (high_digits (is (f 0) c) (own_mask v (later f) c)) ∙ own_bit v (later f) x (omega arith)

  -- x moves to r
  pub own_put : (v : ℕ) (f : ℕ → Ref) (x : ℕ) (r : Ref) → x < v → own_mask v (change x r f) c ≡ put x (is r c) (own_mask v f c)
  own_put zero f x r h = absurd (omega arith)
  own_put (suc v) f zero r h =
      ap (λ m. cond (is r c) 1 0 + 2 * m)
      (own_cong v (later (change 0 r f)) (later f) (λ y. rw (eqb-suc-zero y)) ∙ sym (high_digits (is (f 0) c) (own_mask v (later f) c)))
  own_put (suc v) f (suc x) r h =
      ap₂ (λ d m. d + 2 * m)
      (ap (λ b. cond (is (cond b r (f 0)) c) 1 0) (eqb-zero-suc x) ∙ sym (low_digit (is (f 0) c) (own_mask v (later f) c)))
      (own_cong v (later (change (suc x) r f)) (change x r (later f)) (λ y. rw (eqb-suc-suc y x))
      ∙ own_put v (later f) x r (omega arith)
      ∙ ap (put x (is r c)) (sym (high_digits (is (f 0) c) (own_mask v (later f) c))))

  -- no variable is on c
  pub own_none : (v : ℕ) (f : ℕ → Ref) → ((x : ℕ) → x < v → is (f x) c ≡ false) → own_mask v f c ≡ 0
  own_none zero f h = refl
  own_none (suc v) f h = rw (h 0 (omega arith), own_none v (later f) (λ x l. h (suc x) (omega arith)))
