-- Bits of variable masks: what the reader's `|` and `&` say of single variables, and what a put variable changes.
use Prim.Native.Nat.{ℕ, zero, suc, ◌+◌, ◌*◌, ◌/◌, ◌%◌, max, ◌≤◌, ◌<◌}
use mathlib.Core.Bool.{Bool, true, false, cond}
use mathlib.Core.Logic.{◌≢◌}
use mathlib.Core.Path.{◌≡◌, refl, ap, ◌∙◌}
use native.Mathlib.Omega.{arith}
use lib.Dec.{eqb}
use lib.Bits.{bit_and, bit_or, and_step, or_step}
use borrow.Author.Tests.{eqb-true, eqb-false, eq-eqb}
use Rattle.model.specs.Finite.{bit, put}
use Rattle.model.proofs.Bools.{clash}

or_half : (a b : ℕ) → bit_or a b / 2 ≡ bit_or (a / 2) (b / 2)
or_half a b = let e = or_step a b in let h : a % 2 < 2 = omega arith in let k : b % 2 < 2 = omega arith in omega arith

or_odd : (a b : ℕ) → bit_or a b % 2 ≡ max (a % 2) (b % 2)
or_odd a b = let e = or_step a b in omega arith

pub bit_or_left : (x a b : ℕ) → bit x a ≡ true → bit x (bit_or a b) ≡ true
bit_or_left zero a b e =
    let h = eqb-true (a % 2) 1 e in let k = or_odd a b in let l : b % 2 < 2 = omega arith in eq-eqb (bit_or a b % 2) 1 (omega arith)
bit_or_left (suc x) a b e = rw (or_half a b) (bit_or_left x (a / 2) (b / 2) e)

pub bit_or_right : (x a b : ℕ) → bit x b ≡ true → bit x (bit_or a b) ≡ true
bit_or_right zero a b e =
    let h = eqb-true (b % 2) 1 e in let k = or_odd a b in let l : a % 2 < 2 = omega arith in eq-eqb (bit_or a b % 2) 1 (omega arith)
bit_or_right (suc x) a b e = rw (or_half a b) (bit_or_right x (a / 2) (b / 2) e)

-- masks with no bit in common
pub apart : {C : Type 0} (x a b : ℕ) → bit_and a b ≡ 0 → bit x a ≡ true → bit x b ≡ true → C
apart zero a b n e d =
    absurd (let h = eqb-true (a % 2) 1 e in let k = eqb-true (b % 2) 1 d in let z = and_step a b in omega arith)
apart (suc x) a b n e d = apart x (a / 2) (b / 2) (let z = and_step a b in omega arith) e d

pub no_bit : {C : Type 0} (x : ℕ) → bit x 0 ≡ true → C
no_bit zero e = clash e refl
no_bit (suc x) e = no_bit x e

-- a mask without bits is 0; k is at least the mask
pub no_bits : (k m : ℕ) → m ≤ k → ((x : ℕ) → bit x m ≡ false) → m ≡ 0
no_bits zero m h f = omega arith
no_bits (suc k) m h f =
    let low : m % 2 ≢ 1 = eqb-false (m % 2) 1 (f 0) in
    let high = no_bits k (m / 2) (omega arith) (λ x. f (suc x)) in
    omega arith

-- ---- a variable that is put, or taken out

-- a digit in front of a number
pub low_digit : (b : Bool) (m : ℕ) → (cond b 1 0 + 2 * m) % 2 ≡ cond b 1 0
low_digit true m = omega arith
low_digit false m = omega arith

pub high_digits : (b : Bool) (m : ℕ) → (cond b 1 0 + 2 * m) / 2 ≡ m
high_digits true m = omega arith
high_digits false m = omega arith

pub digit_bit : (b : Bool) → eqb (cond b 1 0) 1 ≡ b
digit_bit true = refl
digit_bit false = refl

pub bit_put : (x : ℕ) (b : Bool) (m : ℕ) → bit x (put x b m) ≡ b
bit_put zero b m = ap (λ d. eqb d 1) (low_digit b (m / 2)) ∙ digit_bit b
bit_put (suc x) b m = ap (bit x) (let z : (m % 2 + 2 * put x b (m / 2)) / 2 ≡ put x b (m / 2) = omega arith in z) ∙ bit_put x b (m / 2)

pub bit_put_other : (y x : ℕ) (b : Bool) (m : ℕ) → y ≢ x → bit y (put x b m) ≡ bit y m
bit_put_other zero zero b m d = absurd (d refl)
bit_put_other zero (suc x) b m d = ap (λ d. eqb d 1) (let z : (m % 2 + 2 * put x b (m / 2)) % 2 ≡ m % 2 = omega arith in z)
bit_put_other (suc y) zero b m d = ap (bit y) (high_digits b (m / 2))
bit_put_other (suc y) (suc x) b m d =
    ap (bit y) (let z : (m % 2 + 2 * put x b (m / 2)) / 2 ≡ put x b (m / 2) = omega arith in z)
    ∙ bit_put_other y x b (m / 2) (λ q. d (ap suc q))
