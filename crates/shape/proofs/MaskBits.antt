-- Single masks: a variable asked for, put in or taken out.
use Prim.Native.Nat.{ℕ, zero, suc, ◌+◌, ◌*◌, ◌-◌, ◌/◌, ◌%◌, ◌^◌, ◌<◌}
use mathlib.Core.Bool.{Bool, true, false}
use mathlib.Core.Logic.{◌≢◌}
use mathlib.Core.Path.{◌≡◌, refl, sym, ap, ◌∙◌}
use native.Mathlib.Omega.{arith}
use native.Mathlib.Nat.{pow-succ', mod-eq_of_lt, div-one, div-div-eq-div-mul}
use lib.Bits.{bit_and, bit_or, and_step, or_step, or_zero_l, or_zero_r}
use lib.Dec.{eqb}
use borrow.Author.Tests.{eqb-true, eqb-false}
use Rattle.std.proofs.Math.Pow.{pow-lt}
use Rattle.std.proofs.lemmas.Nat.{and_mask}
use Rattle.model.specs.Finite.{bit, put}

pub bit_is : (x m : ℕ) → eqb (m / 2 ^ x % 2) 1 ≡ bit x m
bit_is zero m = rw div-one
bit_is (suc x) m = rw (pow-succ' 2 x, ← div-div-eq-div-mul m 2 (2 ^ x)) (bit_is x (m / 2))

-- ---- put in or taken out

pub put_or : (x m : ℕ) → bit_or m (2 ^ x) ≡ put x true m
put_or zero m = let e = or_step m 1 in let z = or_zero_r (m / 2) in omega arith
put_or (suc x) m =
    let p = pow-succ' 2 x in
    let h : 2 ^ suc x / 2 ≡ 2 ^ x = omega arith in
    let e = or_step m (2 ^ suc x) in
    let d = ap (bit_or (m / 2)) h in
    let z = put_or x (m / 2) in
    omega arith

-- a mask of k bits without x
pub put_and : (k x m : ℕ) → x < k → m < 2 ^ k → bit_and m (2 ^ k - 1 - 2 ^ x) ≡ put x false m
put_and zero x m h l = absurd (omega arith)
put_and (suc k) zero m h l =
    let p = pow-succ' 2 k in
    let i : (2 ^ suc k - 1 - 1) / 2 ≡ 2 ^ k - 1 = omega arith in
    let e = and_step m (2 ^ suc k - 1 - 1) in
    let d = ap (bit_and (m / 2)) i in
    let z : bit_and (m / 2) (2 ^ k - 1) ≡ m / 2 = and_mask (m / 2) k ∙ mod-eq_of_lt (omega arith) in
    omega arith
put_and (suc k) (suc x) m h l =
    let p = pow-succ' 2 k in
    let q = pow-succ' 2 x in
    let r : 2 ^ x < 2 ^ k = pow-lt (omega arith) in
    let i : (2 ^ suc k - 1 - 2 ^ suc x) / 2 ≡ 2 ^ k - 1 - 2 ^ x = omega arith in
    let e = and_step m (2 ^ suc k - 1 - 2 ^ suc x) in
    let d = ap (bit_and (m / 2)) i in
    let z = put_and k x (m / 2) (omega arith) (omega arith) in
    omega arith

pub put_none : (x : ℕ) → put x false 0 ≡ 0
put_none zero = refl
put_none (suc x) = rw (put_none x)

pub put_new : (x : ℕ) → 2 ^ x ≡ put x true 0
put_new x = sym (or_zero_l (2 ^ x)) ∙ put_or x 0

-- ---- the same by sums and differences

pub put_same : (x m : ℕ) (b : Bool) → bit x m ≡ b → m ≡ put x b m
put_same zero m true e = let z = eqb-true (m % 2) 1 e in omega arith
put_same zero m false e = let z : m % 2 ≢ 1 = eqb-false (m % 2) 1 e in omega arith
put_same (suc x) m b e = let z = put_same x (m / 2) b e in rw (← z) (omega arith)

pub put_add : (x m : ℕ) → bit x m ≡ false → m + 2 ^ x ≡ put x true m
put_add zero m e = let z : m % 2 ≢ 1 = eqb-false (m % 2) 1 e in omega arith
put_add (suc x) m e = let z = put_add x (m / 2) e in rw (pow-succ' 2 x) (omega arith)

pub put_sub : (x m : ℕ) → bit x m ≡ true → put x false m + 2 ^ x ≡ m
put_sub zero m e = let z = eqb-true (m % 2) 1 e in omega arith
put_sub (suc x) m e = let z = put_sub x (m / 2) e in rw (pow-succ' 2 x) (omega arith)

-- a mask below 2^k that lacks x has room for it
pub put_fits : (k x m : ℕ) → x < k → m < 2 ^ k → put x true m < 2 ^ k
put_fits zero x m h l = absurd (omega arith)
put_fits (suc k) zero m h l = let z : 2 ^ suc k ≡ 2 * 2 ^ k = pow-succ' 2 k in omega arith
put_fits (suc k) (suc x) m h l =
    let z : 2 ^ suc k ≡ 2 * 2 ^ k = pow-succ' 2 k in
    let y = put_fits k x (m / 2) (omega arith) (omega arith) in
    omega arith
