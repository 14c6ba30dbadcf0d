-- Searches and counts among the numbers below n: what passing means, and what a loop that goes up knows of them.
use Prim.Native.Nat.{ℕ, zero, suc, ◌+◌, ◌≤◌, ◌<◌}
use mathlib.Core.Bool.{Bool, true, false, cond, ◌&&◌, ◌||◌}
use mathlib.Core.Logic.{inl, inr, ◌≢◌}
use mathlib.Core.Path.{◌≡◌, refl, sym, ap, ap₂}
use native.Mathlib.Numerals.{add-one}
use native.Mathlib.Omega.{arith}
use Rattle.model.specs.Finite.{Ref, null, at, null_ref, any, every, count, found, first}
use Rattle.model.proofs.Bools.{clash, by, top_or_below, before_or_after, false_of, and_left, and_right, and_both, or_cases, or_left, or_right}

pub null_not_at : {X : Type 0} {a : ℕ} → null ≡ at a → X
null_not_at q = clash refl (ap null_ref q)

-- ---- some number below n

pub any_intro : (n : ℕ) (p : ℕ → Bool) (a : ℕ) → a < n → p a ≡ true → any n p ≡ true
any_intro zero p a h e = absurd (omega arith)
any_intro (suc n) p a h e =
    top_or_below n a h (λ q. or_right (any n p) (rw q at e)) (λ k. or_left (p n) (any_intro n p a k e))

pub any_elim : (n : ℕ) (p : ℕ → Bool) → any n p ≡ true → (a : ℕ) × (a < n) × (p a ≡ true)
any_elim zero p e = clash e refl
any_elim (suc n) p e =
    elim (or_cases (any n p) (p n) e) [
      | inl q ↦ (let r = any_elim n p q in (r.0, let h = r.1 in omega arith, r.2))
      | inr q ↦ (n, omega arith, q)
    ]

pub any_none : (n : ℕ) (p : ℕ → Bool) → any n p ≡ false → (a : ℕ) → a < n → p a ≡ false
any_none n p e a h = false_of (λ q. clash (any_intro n p a h q) e)

pub none_any : (n : ℕ) (p : ℕ → Bool) → ((a : ℕ) → a < n → p a ≡ true → ⊥) → any n p ≡ false
none_any n p f = false_of (λ q. let r = any_elim n p q in f r.0 r.1 r.2)

pub any_cong : (n : ℕ) (p q : ℕ → Bool) → ((a : ℕ) → a < n → p a ≡ q a) → any n p ≡ any n q
any_cong zero p q f = refl
any_cong (suc n) p q f = ap₂ ◌||◌ (any_cong n p q (λ a h. f a (omega arith))) (f n (omega arith))

-- ---- every number below n

pub every_elim : (n : ℕ) (p : ℕ → Bool) → every n p ≡ true → (a : ℕ) → a < n → p a ≡ true
every_elim zero p e a h = absurd (omega arith)
every_elim (suc n) p e a h =
    top_or_below n a h
    (λ q. rw q (and_right (every n p) (p n) e))
    (λ k. every_elim n p (and_left (every n p) (p n) e) a k)

pub every_intro : (n : ℕ) (p : ℕ → Bool) → ((a : ℕ) → a < n → p a ≡ true) → every n p ≡ true
every_intro zero p f = refl
every_intro (suc n) p f = and_both (every_intro n p (λ a h. f a (omega arith))) (f n (omega arith))

pub every_cong : (n : ℕ) (p q : ℕ → Bool) → ((a : ℕ) → a < n → p a ≡ q a) → every n p ≡ every n q
every_cong zero p q f = refl
every_cong (suc n) p q f = ap₂ ◌&&◌ (every_cong n p q (λ a h. f a (omega arith))) (f n (omega arith))

-- ---- how many

-- n itself adds one if it passes, and nothing if it doesn't
count_yes : (n : ℕ) (p : ℕ → Bool) → p n ≡ true → count (suc n) p ≡ count n p + 1
count_yes n p e = rw e

count_no : (n : ℕ) (p : ℕ → Bool) → p n ≡ false → count (suc n) p ≡ count n p
count_no n p e = rw e (omega arith)

count_grows : (n : ℕ) (p : ℕ → Bool) → count n p ≤ count (suc n) p
count_grows n p = omega arith

pub count_some : (n : ℕ) (p : ℕ → Bool) (a : ℕ) → a < n → p a ≡ true → 1 ≤ count n p
count_some zero p a h e = absurd (omega arith)
count_some (suc n) p a h e =
    top_or_below n a h
    (λ q. let z = count_yes n p (rw q at e) in omega arith)
    (λ k. let z = count_some n p a k e in let y = count_grows n p in omega arith)

pub count_two : (n : ℕ) (p : ℕ → Bool) (a b : ℕ) → a < b → b < n → p a ≡ true → p b ≡ true → 2 ≤ count n p
count_two zero p a b h k e f = absurd (omega arith)
count_two (suc n) p a b h k e f =
    top_or_below n b k
    (λ q. let z = count_yes n p (rw q at f) in let y = count_some n p a (omega arith) e in omega arith)
    (λ l. let z = count_two n p a b h l e f in let y = count_grows n p in omega arith)

pub some_count : (n : ℕ) (p : ℕ → Bool) → 1 ≤ count n p → (a : ℕ) × (a < n) × (p a ≡ true)
some_count zero p h = absurd (omega arith)
some_count (suc n) p h =
    by (p n)
    (λ q. (n, omega arith, q))
    (λ q.
    let z = count_no n p q in
    let r = some_count n p (omega arith) in
    (r.0, let l = r.1 in omega arith, r.2))

pub two_count : (n : ℕ) (p : ℕ → Bool) → 2 ≤ count n p → (a b : ℕ) × (a < b) × (b < n) × (p a ≡ true) × (p b ≡ true)
two_count zero p h = absurd (omega arith)
two_count (suc n) p h =
    by (p n)
    (λ q.
    let z = count_yes n p q in
    let r = some_count n p (omega arith) in
    (r.0, n, r.1, omega arith, r.2, q))
    (λ q.
    let z = count_no n p q in
    let r = two_count n p (omega arith) in
    (r.0, r.1, r.2, let l = r.3 in omega arith, r.4, r.5))

pub count_apart : (n : ℕ) (p : ℕ → Bool) (a b : ℕ) → a ≢ b → a < n → b < n → p a ≡ true → p b ≡ true → 2 ≤ count n p
count_apart n p a b d h k e f =
    before_or_after a b d (λ l. count_two n p a b l k e f) (λ l. count_two n p b a l h f e)

pub count_cong : (n : ℕ) (p q : ℕ → Bool) → ((a : ℕ) → a < n → p a ≡ q a) → count n p ≡ count n q
count_cong zero p q f = refl
count_cong (suc n) p q f = ap₂ (λ x b. x + cond b 1 0) (count_cong n p q (λ a h. f a (omega arith))) (f n (omega arith))

-- ---- the first that passes

pub data Firstly (n : ℕ) (p : ℕ → Bool) : Ref → Type 0 where
  nowhere : ((a : ℕ) → a < n → p a ≡ false) → Firstly n p null
  first_at : {a : ℕ} → a < n → p a ≡ true → Firstly n p (at a)

pub firstly : (n : ℕ) (p : ℕ → Bool) → Firstly n p (first n p)
firstly zero p = nowhere (λ a h. absurd (omega arith))
firstly (suc n) p = go (first n p) (firstly n p) (p n) refl
  where
    go : (r : Ref) → Firstly n p r → (b : Bool) → p n ≡ b → Firstly (suc n) p (found r b n)
    go null (nowhere f) true e = first_at (let k : n < suc n = omega arith in k) e
    go null (nowhere f) false e =
        nowhere (λ a h. top_or_below n a h (λ q. rw q e) (f a))
    go (at a) (first_at h q) b e = first_at (let k : a < suc n = omega arith in k) q

-- ---- a loop that has looked at the numbers below i

or_no : (b c : Bool) → b ≡ false → c ≡ false → (b || c) ≡ false
or_no b c p q = rw (p, q)

or_no_left : (b c : Bool) → (b || c) ≡ false → b ≡ false
or_no_left true c e = e
or_no_left false c e = refl

or_no_right : (b c : Bool) → (b || c) ≡ false → c ≡ false
or_no_right true c e = clash refl e
or_no_right false c e = e

module _ (p : ℕ → Bool) where
  pub any_more : (i : ℕ) → any i p ≡ false → p i ≡ false → any (i + 1) p ≡ false
  any_more i a b = rw (add-one i) (or_no (any i p) (p i) a b)

  pub every_more : (i : ℕ) → every i p ≡ true → p i ≡ true → every (i + 1) p ≡ true
  every_more i a b = rw (add-one i) (and_both a b)

  pub first_none : (n : ℕ) → any n p ≡ false → first n p ≡ null
  first_none zero e = refl
  first_none (suc n) e = rw (first_none n (or_no_left (any n p) (p n) e), or_no_right (any n p) (p n) e)

  pub first_hit : (n i : ℕ) → i < n → any i p ≡ false → p i ≡ true → first n p ≡ at i
  first_hit zero i h a e = absurd (omega arith)
  first_hit (suc n) i h a e =
      top_or_below n i h
      (λ q. rw (first_none n (rw q at a), rw q at e) (ap at (sym q)))
      (λ k. rw (first_hit n i k a e))
