-- n numbers with different places below m are at most m.
use Prim.Native.Nat.{ℕ, zero, suc, ◌≤◌, ◌<◌}
use mathlib.Core.Bool.{cond}
use mathlib.Core.Path.{◌≡◌, sym, ◌∙◌}
use native.Mathlib.Omega.{arith}
use lib.Dec.{eqb, ltb}
use borrow.Author.Tests.{eqb-true, eq-eqb, lt-ltb, le-ltb, ltb-true, ltb-false}
use Rattle.model.specs.Finite.{any}
use Rattle.model.proofs.Bools.{by, top_or_below, clash}
use Rattle.model.proofs.Search.{any_elim, any_none}

-- the numbers other than h, in order
skip : ℕ → ℕ → ℕ
skip h a = cond (ltb a h) a (suc a)

skip_low : (h a : ℕ) → a < h → skip h a ≡ a
unfolding skip
skip_low h a l = rw (lt-ltb a h l)

skip_high : (h a : ℕ) → h ≤ a → skip h a ≡ suc a
unfolding skip
skip_high h a l = rw (le-ltb a h l)

skip_misses : (h a : ℕ) → skip h a ≡ h → ⊥
skip_misses h a e =
    by (ltb a h)
    (λ q. let l = ltb-true a h q in let z = skip_low h a l in omega arith)
    (λ q. let l = ltb-false a h q in let z = skip_high h a l in omega arith)

skip_below : (n h a : ℕ) → a < n → skip h a < suc n
skip_below n h a l =
    by (ltb a h)
    (λ q. let z = skip_low h a (ltb-true a h q) in omega arith)
    (λ q. let z = skip_high h a (ltb-false a h q) in omega arith)

skip_apart : (h a b : ℕ) → skip h a ≡ skip h b → a ≡ b
skip_apart h a b e =
    by (ltb a h)
    (λ p.
    let x = ltb-true a h p in
    let y = skip_low h a x in
    by (ltb b h) (λ q. let z = skip_low h b (ltb-true b h q) in omega arith) (λ q. let w = ltb-false b h q in let z = skip_high h b w in omega arith))
    (λ p.
    let x = ltb-false a h p in
    let y = skip_high h a x in
    by (ltb b h) (λ q. let w = ltb-true b h q in let z = skip_low h b w in omega arith) (λ q. let z = skip_high h b (ltb-false b h q) in omega arith))

-- by m: where no number has the last place, there are only the places before it; where h has it, h is left out
pub few : (m n : ℕ) (f : ℕ → ℕ) → ((a : ℕ) → a < n → f a < m) → ((a b : ℕ) → a < n → b < n → f a ≡ f b → a ≡ b) → n ≤ m
few zero zero f low apart = omega arith
few zero (suc n) f low apart = absurd (let z = low 0 (omega arith) in omega arith)
few (suc m) zero f low apart = omega arith
few (suc m) (suc n) f low apart =
    by (any (suc n) (λ a. eqb (f a) m))
    (λ y.
    let r = any_elim (suc n) (λ a. eqb (f a) m) y in
    let h = r.0 in
    let at_h : f h ≡ m = eqb-true (f h) m r.2 in
    let z =
    few m n (λ a. f (skip h a))
    (λ a l.
    top_or_below m (f (skip h a)) (low (skip h a) (skip_below n h a l))
    (λ q. absurd (skip_misses h a (apart (skip h a) h (skip_below n h a l) r.1 (q ∙ sym at_h))))
    (λ k. k))
    (λ a b l k e. skip_apart h a b (apart (skip h a) (skip h b) (skip_below n h a l) (skip_below n h b k) e))
    in
    omega arith)
    (λ y.
    let z =
    few m (suc n) f
    (λ a l. top_or_below m (f a) (low a l) (λ q. clash (eq-eqb (f a) m q) (any_none (suc n) (λ a. eqb (f a) m) y a l)) (λ k. k))
    apart
    in
    omega arith)
