-- Keys: having one key is an equivalence, key order is a strict total order, and for masks below the weight both are those
-- of the paper's numbers. The laws about a bit of the key are shown once, for a bit.
use Prim.Native.Nat.{ℕ, ◌+◌, ◌*◌, ◌<◌}
use mathlib.Core.Bool.{Bool, true, false, cond, beq}
use mathlib.Core.Logic.{◌≢◌}
use mathlib.Core.Path.{◌≡◌, refl, sym, ap₂, ◌∙◌}
use native.Mathlib.Omega.{arith}
use lib.Dec.{eqb, ltb}
use borrow.Author.Tests.{eqb-true, eq-eqb, ltb-true, ltb-false, lt-ltb, le-ltb}
use Rattle.model.specs.Shape.{Shape, key, same_key, by_bit, key_before}
use Rattle.model.proofs.Bools.{clash, same_or_not, before_or_after, false_of, same_bool, and_left, and_right, and_both, beq_true, eq_beq}

-- ---- one key

module _ (W : Shape) where
  pub same_mask : (a b : ℕ) → same_key W a b ≡ true → W.mask a ≡ W.mask b
  same_mask a b e = eqb-true (W.mask a) (W.mask b) (and_left (eqb (W.mask a) (W.mask b)) (beq (W.n.shared a) (W.n.shared b)) e)

  pub same_shared : (a b : ℕ) → same_key W a b ≡ true → W.n.shared a ≡ W.n.shared b
  same_shared a b e =
      beq_true (W.n.shared a) (W.n.shared b) (and_right (eqb (W.mask a) (W.mask b)) (beq (W.n.shared a) (W.n.shared b)) e)

  pub to_same : (a b : ℕ) → W.mask a ≡ W.mask b → W.n.shared a ≡ W.n.shared b → same_key W a b ≡ true
  to_same a b x y = and_both (eq-eqb (W.mask a) (W.mask b) x) (eq_beq (W.n.shared a) (W.n.shared b) y)

  pub same_refl : (a : ℕ) → same_key W a a ≡ true
  same_refl a = to_same a a refl refl

  pub same_sym : (a b : ℕ) → same_key W a b ≡ true → same_key W b a ≡ true
  same_sym a b e = to_same b a (sym (same_mask a b e)) (sym (same_shared a b e))

  pub same_trans : (a b c : ℕ) → same_key W a b ≡ true → same_key W b c ≡ true → same_key W a c ≡ true
  same_trans a b c e f = to_same a c (same_mask a b e ∙ same_mask b c f) (same_shared a b e ∙ same_shared b c f)

  pub apart_sym : (a b : ℕ) → same_key W a b ≡ false → same_key W b a ≡ false
  apart_sym a b e = false_of (λ q. clash (same_sym b a q) e)

-- no two individuals of T have one key
abbrev pub Keyed : Shape → Type 0
Keyed T = (i j : ℕ) → i < T.size → j < T.size → T.mask i ≡ T.mask j → T.n.shared i ≡ T.n.shared j → i ≡ j

-- ---- key order, a bit in front of what decides where the bits are equal

bit_trans : (s t u : Bool) {x y z : Bool} → (x ≡ true → y ≡ true → z ≡ true) → by_bit s t x ≡ true → by_bit t u y ≡ true → by_bit s u z ≡ true
bit_trans true true true h p q = h p q
bit_trans true true false h p q = q
bit_trans true false true h p q = clash p refl
bit_trans true false false h p q = clash p refl
bit_trans false true true h p q = refl
bit_trans false true false h p q = clash q refl
bit_trans false false true h p q = refl
bit_trans false false false h p q = h p q

bit_irrefl : (s : Bool) {x : Bool} → (x ≡ true → ⊥) → by_bit s s x ≡ true → ⊥
bit_irrefl true h p = h p
bit_irrefl false h p = h p

bit_total : (s t : Bool) {x y : Bool} → (s ≡ t → x ≡ false → y ≡ true) → by_bit s t x ≡ false → by_bit t s y ≡ true
bit_total true true h p = h refl p
bit_total true false h p = refl
bit_total false true h p = sym p
bit_total false false h p = h refl p

module _ (W : Shape) where
  pub before_trans : (a b c : ℕ) → key_before W a b ≡ true → key_before W b c ≡ true → key_before W a c ≡ true
  before_trans a b c =
      bit_trans (W.n.shared a) (W.n.shared b) (W.n.shared c) (λ p q.
      lt-ltb (W.mask a) (W.mask c) (let x = ltb-true (W.mask a) (W.mask b) p in let y = ltb-true (W.mask b) (W.mask c) q in omega arith))

  pub before_irrefl : (a : ℕ) → key_before W a a ≡ true → ⊥
  before_irrefl a = bit_irrefl (W.n.shared a) (λ p. let x = ltb-true (W.mask a) (W.mask a) p in omega arith)

  pub before_total : (a b : ℕ) → same_key W a b ≡ false → key_before W a b ≡ false → key_before W b a ≡ true
  before_total a b d =
      bit_total (W.n.shared a) (W.n.shared b) (λ e p.
      lt-ltb (W.mask b) (W.mask a)
      (let x = ltb-false (W.mask a) (W.mask b) p in let y : W.mask a ≢ W.mask b = λ z. clash (to_same W a b z e) d in omega arith))

  -- individuals of one key are not in order
  pub before_apart : (a b : ℕ) → key_before W a b ≡ true → W.mask a ≡ W.mask b → W.n.shared a ≡ W.n.shared b → ⊥
  before_apart a b p x y = before_irrefl b (ap₂ (λ m s. by_bit s (W.n.shared b) (ltb m (W.mask b))) (sym x) (sym y) ∙ p)

  -- keys that ascend differ
  pub ascend_keyed : ((a b : ℕ) → a < b → b < W.size → key_before W a b ≡ true) → Keyed W
  ascend_keyed up i j l k p q =
      same_or_not i j (λ z. z) (λ z.
      before_or_after i j z
      (λ m. absurd (before_apart i j (up i j m k) p q))
      (λ m. absurd (before_apart j i (up j i m l) (sym p) (sym q))))

-- ---- the paper's numbers

number_order : (w : ℕ) (s t : Bool) (m n : ℕ) → m < w → n < w → ltb (w * cond s 1 0 + m) (w * cond t 1 0 + n) ≡ by_bit s t (ltb m n)
number_order w true true m n h k =
    same_bool
    (λ p. lt-ltb m n (let x = ltb-true (w * 1 + m) (w * 1 + n) p in omega arith))
    (λ p. lt-ltb (w * 1 + m) (w * 1 + n) (let x = ltb-true m n p in omega arith))
number_order w true false m n h k = le-ltb (w * 1 + m) (w * 0 + n) (omega arith)
number_order w false true m n h k = lt-ltb (w * 0 + m) (w * 1 + n) (omega arith)
number_order w false false m n h k =
    same_bool
    (λ p. lt-ltb m n (let x = ltb-true (w * 0 + m) (w * 0 + n) p in omega arith))
    (λ p. lt-ltb (w * 0 + m) (w * 0 + n) (let x = ltb-true m n p in omega arith))

number_same : (w : ℕ) (s t : Bool) (m n : ℕ) → m < w → n < w → w * cond s 1 0 + m ≡ w * cond t 1 0 + n → (m ≡ n) × (s ≡ t)
number_same w true true m n h k e = (omega arith, refl)
number_same w true false m n h k e = absurd (omega arith)
number_same w false true m n h k e = absurd (omega arith)
number_same w false false m n h k e = (omega arith, refl)

module _ (weight : ℕ) (W : Shape) (a b : ℕ) (h : W.mask a < weight) (k : W.mask b < weight) where
  pub before_by_number : ltb (key weight W a) (key weight W b) ≡ key_before W a b
  before_by_number = number_order weight (W.n.shared a) (W.n.shared b) (W.mask a) (W.mask b) h k

  pub same_by_number : eqb (key weight W a) (key weight W b) ≡ same_key W a b
  same_by_number =
      same_bool
      (λ p.
      let r = number_same weight (W.n.shared a) (W.n.shared b) (W.mask a) (W.mask b) h k (eqb-true (key weight W a) (key weight W b) p) in
      to_same W a b r.0 r.1)
      (λ p. eq-eqb (key weight W a) (key weight W b) (ap₂ (λ m s. weight * cond s 1 0 + m) (same_mask W a b p) (same_shared W a b p)))
