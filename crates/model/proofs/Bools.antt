-- Tests: how an equation `b ≡ true` is taken apart and made. A Boolean is one of two, so everything here is by cases.
use Prim.Native.Nat.{ℕ, suc, ◌<◌}
use mathlib.Core.Bool.{Bool, true, false, cond, not, ◌&&◌, ◌||◌, beq}
use mathlib.Core.Logic.{◌⊎◌, inl, inr, ◌≢◌}
use mathlib.Core.Path.{◌≡◌, refl, sym, ap}
use native.Mathlib.Omega.{arith}
use lib.Dec.{eqb, ltb}
use borrow.Author.Tests.{eqb-true, eqb-false, ltb-true, ltb-false}

-- a test that passes and fails proves anything
pub clash : {C : Type 0} {b : Bool} → b ≡ true → b ≡ false → C
clash {C} {b} p q = absurd (let z : ◌≡◌ {A = ℕ} 0 1 = cc in omega arith)

-- a proof by what the test says
pub by : {C : Type 0} (b : Bool) → (b ≡ true → C) → (b ≡ false → C) → C
by true f g = f refl
by false f g = g refl

-- a number is another one, or not; below suc n it is n, or below n
pub same_or_not : {C : Type 0} (a b : ℕ) → (a ≡ b → C) → (a ≢ b → C) → C
same_or_not a b f g = by (eqb a b) (λ q. f (eqb-true a b q)) (λ q. g (eqb-false a b q))

pub top_or_below : {C : Type 0} (n a : ℕ) → a < suc n → (a ≡ n → C) → (a < n → C) → C
top_or_below n a h f g = same_or_not a n f (λ d. g (omega arith))

pub before_or_after : {C : Type 0} (a b : ℕ) → a ≢ b → (a < b → C) → (b < a → C) → C
before_or_after a b d f g = by (ltb a b) (λ q. f (ltb-true a b q)) (λ q. let l = ltb-false a b q in g (omega arith))

pub same_bool : {b c : Bool} → (b ≡ true → c ≡ true) → (c ≡ true → b ≡ true) → b ≡ c
same_bool {b = true} {c = true} f g = refl
same_bool {b = true} {c = false} f g = sym (f refl)
same_bool {b = false} {c = true} f g = g refl
same_bool {b = false} {c = false} f g = refl

pub not_false : {b : Bool} → b ≡ false → not b ≡ true
not_false e = ap not e

pub not_true : {b : Bool} → not b ≡ true → b ≡ false
not_true {b = true} e = sym e
not_true {b = false} e = refl

pub false_of : {b : Bool} → (b ≡ true → ⊥) → b ≡ false
false_of {b = true} h = absurd (h refl)
false_of {b = false} h = refl

pub and_left : (b c : Bool) → (b && c) ≡ true → b ≡ true
and_left true c e = refl
and_left false c e = e

pub and_right : (b c : Bool) → (b && c) ≡ true → c ≡ true
and_right true c e = e
and_right false c e = clash e refl

pub and_both : {b c : Bool} → b ≡ true → c ≡ true → (b && c) ≡ true
and_both p q = rw (p, q)

pub or_cases : (b c : Bool) → (b || c) ≡ true → (b ≡ true) ⊎ (c ≡ true)
or_cases true c e = inl refl
or_cases false c e = inr e

pub or_left : {b : Bool} (c : Bool) → b ≡ true → (b || c) ≡ true
or_left c p = rw p

pub or_right : (b : Bool) {c : Bool} → c ≡ true → (b || c) ≡ true
or_right true q = refl
or_right false q = q

-- ---- equal bits

pub beq_true : (b c : Bool) → beq b c ≡ true → b ≡ c
beq_true true true e = refl
beq_true true false e = sym e
beq_true false true e = e
beq_true false false e = refl

pub eq_beq : (b c : Bool) → b ≡ c → beq b c ≡ true
eq_beq true true e = refl
eq_beq true false e = sym e
eq_beq false true e = e
eq_beq false false e = refl

pub and_map : (b : Bool) {c d : Bool} → (c ≡ true → d ≡ true) → (b && c) ≡ true → (b && d) ≡ true
and_map true f e = f e
and_map false f e = e

pub and_false : (b : Bool) {c : Bool} → c ≡ false → (b && c) ≡ false
and_false true e = e
and_false false e = refl

-- ---- a choice by a test

pub cond_same : {A : Type 0} (b : Bool) {x y z : A} → x ≡ z → y ≡ z → cond b x y ≡ z
cond_same true p q = p
cond_same false p q = q

pub cond_cong : {A : Type 0} {b c : Bool} {x x' y y' : A} → b ≡ c → (b ≡ true → x ≡ x') → (b ≡ false → y ≡ y') → cond b x y ≡ cond c x' y'
cond_cong {b = true} q f g = rw (← q) (f refl)
cond_cong {b = false} q f g = rw (← q) (g refl)
