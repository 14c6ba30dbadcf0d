-- Records: places that go up by steps, and what is read at them.
use Prim.Native.Nat.{ℕ, ◌+◌, ◌*◌, ◌/◌, ◌%◌, ◌<◌, ◌≤◌}
use mathlib.Core.Bool.{Bool, true, false, cond, not, ◌&&◌, ◌||◌, beq}
use mathlib.Core.List.{List}
use mathlib.Core.Path.{◌≡◌, refl, sym, ap, ap₂, ◌∙◌, fun_ext}
use native.Mathlib.Omega.{arith}
use native.Mathlib.Nat.{mul-le-mul_left, mul-add, mul-one}
use lib.Dec.{eqb, ltb}
use borrow.Author.Tests.{eq-eqb, lt-ltb}
use Rattle.model.specs.Truth.{𝟘, under, truth}
use Rattle.model.specs.Finite.{every}
use Rattle.model.specs.Shape.{Shape, covered_at, covered}
use Rattle.model.specs.File.{byte, number, size_at}
use Rattle.model.specs.Claim.{shape_of}
use Rattle.model.proofs.Bools.{same_bool, and_left, and_right, and_both}
use Rattle.model.proofs.Search.{every_cong, every_elim, every_intro}
use Rattle.shape.specs.Meaning.{made, mask, shared, summary, grid}
use Rattle.shape.specs.Records.{sized, keys_agree}
use Rattle.shape.proofs.Entries.{mask_at, shared_at, summary_at}

-- ---- steps of one length

pub step_next : (m a : ℕ) → m * (a + 1) ≡ m * a + m
step_next m a = mul-add m a 1 ∙ ap (λ (x : ℕ). m * a + x) (mul-one m)

pub step_fits : (m a k : ℕ) → a < k → m * a + m ≤ m * k
step_fits m a k h = rw (← step_next m a) (mul-le-mul_left m (let z : a + 1 ≤ k = omega arith in z))

-- ---- flags

bit_if : (B : ℕ → Bool) → B 0 ≡ false → (b : Bool) (x : ℕ) → B (cond b x 0) ≡ (b && B x)
bit_if B z true x = refl
bit_if B z false x = z

module _ (f : List ℕ) (k : ℕ) (g : ℕ → ℕ) (e : mask f ≡ (λ a. cond (ltb a k) (g a) 0)) where
  pub shared_read : shared f ≡ (λ a. ltb a k && eqb (g a % 2) 1)
  shared_read =
      fun_ext
      (λ a.
      shared_at f a ∙ ap (λ (x : ℕ). eqb (x % 2) 1) (mask_at f a ∙ ap (λ (m : ℕ → ℕ). m a) e)
      ∙ bit_if (λ x. eqb (x % 2) 1) refl (ltb a k) (g a))

  pub summary_read : summary f ≡ (λ a. ltb a k && eqb (g a / 2 % 2) 1)
  summary_read =
      fun_ext
      (λ a.
      summary_at f a ∙ ap (λ (x : ℕ). eqb (x / 2 % 2) 1) (mask_at f a ∙ ap (λ (m : ℕ → ℕ). m a) e)
      ∙ bit_if (λ x. eqb (x / 2 % 2) 1) refl (ltb a k) (g a))

-- ---- covering

-- first all keys, then all links
every_both : (n : ℕ) (p q : ℕ → Bool) → (every n p && every n q) ≡ every n (λ a. p a && q a)
every_both n p q =
    same_bool
    (λ e.
    every_intro n (λ a. p a && q a)
    (λ a h.
    and_both
    (every_elim n p (and_left (every n p) (every n q) e) a h)
    (every_elim n q (and_right (every n p) (every n q) e) a h)))
    (λ e.
    and_both
    (every_intro n p (λ a h. and_left (p a) (q a) (every_elim n (λ a. p a && q a) e a h)))
    (every_intro n q (λ a h. and_right (p a) (q a) (every_elim n (λ a. p a && q a) e a h))))

turn : (a b c d : Bool) → ((a && (b && c)) && d) ≡ (a && (b && (c && d)))
turn true true c d = refl
turn true false c d = refl
turn false b c d = refl

module _ (n : ℕ) (ms fs ls part : List ℕ) (w : ℕ) where
  abbrev pub the_covered : Shape
  the_covered = made n (mask ms) (summary fs) (shared fs) (grid ls)

  abbrev pub key_covered : ℕ → Bool
  key_covered a =
      keys_agree (mask ms a) (mask fs a) (number w part (2 + (w + 1) * a)) (byte part (2 + (w + 1) * a + w))

  abbrev pub row_covered : ℕ → Bool
  row_covered a = every n (λ b. under (grid ls a b) (truth (byte part (2 + (w + 1) * n + n * a + b))))

  covered_one : n ≡ size_at part 0 → (a : ℕ) → a < n → (key_covered a && row_covered a) ≡ covered_at the_covered (shape_of (sized w) part) a
  covered_one e a h =
      turn
      (eqb (mask ms a) (number w part (2 + (w + 1) * a)))
      (not (eqb (mask fs a / 2 % 2) 1) || eqb (byte part (2 + (w + 1) * a + w) / 2 % 2) 1)
      (beq (eqb (mask fs a % 2) 1) (eqb (byte part (2 + (w + 1) * a + w) % 2) 1))
      (row_covered a)
      ∙ ap₂ ◌&&◌
      (ap (λ (b : Bool). eqb (mask ms a) (cond b (number w part (2 + (w + 1) * a)) 0)) (sym low))
      (ap₂ ◌&&◌
      (ap₂ (λ (x y : Bool). not x || y) (sum a) (ap (λ (b : Bool). b && eqb (byte part (2 + (w + 1) * a + w) / 2 % 2) 1) (sym low)))
      (ap₂ ◌&&◌
      (ap₂ beq (sha a) (ap (λ (b : Bool). b && eqb (byte part (2 + (w + 1) * a + w) % 2) 1) (sym low)))
      (every_cong n _ _
      (λ b k.
      ap (under (grid ls a b))
      (ap₂ (λ (q : Bool) (m : ℕ). cond q (truth (byte part (2 + (w + 1) * m + m * a + b))) 𝟘)
      (sym (and_both low (lt-ltb b (size_at part 0) (let z = e in omega arith))))
      e)))))
    where
      low : ltb a (size_at part 0) ≡ true
      low = lt-ltb a (size_at part 0) (let z = e in omega arith)

      sum : (a : ℕ) → eqb (mask fs a / 2 % 2) 1 ≡ summary fs a
      sum a = ap (λ (x : ℕ). eqb (x / 2 % 2) 1) (sym (mask_at fs a)) ∙ sym (summary_at fs a)

      sha : (a : ℕ) → eqb (mask fs a % 2) 1 ≡ shared fs a
      sha a = ap (λ (x : ℕ). eqb (x % 2) 1) (sym (mask_at fs a)) ∙ sym (shared_at fs a)

  pub covered_read : n ≡ size_at part 0 → (every n key_covered && every n row_covered) ≡ covered the_covered (shape_of (sized w) part)
  covered_read e =
      every_both n key_covered row_covered
      ∙ every_cong n (λ a. key_covered a && row_covered a) (covered_at the_covered (shape_of (sized w) part)) (covered_one e)
      ∙ ap (λ (b : Bool). b && every n (covered_at the_covered (shape_of (sized w) part))) (sym (eq-eqb n (size_at part 0) e))
