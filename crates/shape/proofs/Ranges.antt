-- Chains over the numbers below n as the model's searches and counts, and arrays that are made number by number.
use Prim.Native.Nat.{ℕ, zero, suc, ◌+◌, ◌-◌, ◌≤◌, ◌<◌}
use mathlib.Core.Bool.{Bool, true, false}
use mathlib.Core.List.{List}
use mathlib.Core.Path.{◌≡◌, refl, sym, ap, ap₂, subst, ◌∙◌, fun_ext}
use native.Mathlib.Omega.{arith}
use native.Mathlib.Nat.{zero-add, add-zero}
use native.Mathlib.Numerals.{add-one}
use lib.Dec.{eqb, ltb}
use lib.ListN.{get_or, length, take}
use lib.Seq.{get_or-take, length-take-le}
use denote.Ref.{Bor}
use denote.Param.Members.{Mut}
use borrow.Author.Tests.{eqb-true, eqb-false, ltb-true, ltb-false}
use Rattle.std.specs.declared.ops.Range.{Range}
use Rattle.std.specs.declared.iter.Filter.{Filter}
use Rattle.std.specs.declared.option.Option.{Option}
use Rattle.std.specs.Array.{IsFromFnResult, IsFromFnResultFrom}
use Rattle.std.specs.Bool.{MatchBool}
use Rattle.std.specs.Fn.{Called, CalledAt}
use Rattle.std.specs.Iterator.{YieldsThen, Drains}
use Rattle.std.specs.Iterator.Adapters.{filter_source, filter_callee, filter_steps}
use Rattle.std.specs.List.{FoldsTo, IsAllAdjacentAnswer, range_with_len, filter, AllWithin, HoldsAt}
use Rattle.std.specs.Option.{MatchOption}
use Rattle.std.proofs.iter.Yields.{nat_range_steps}
use Rattle.std.proofs.lemmas.Iterator.{YieldsList-from_range, cases_from_all, cases_from_any}
use Rattle.std.proofs.lemmas.Iterator.Consumers.{YieldsList-from_filter, count_from_yields_List}
use Rattle.std.proofs.lemmas.List.FromFn.{length-range_with_len, get_or-range_with_len}
use Rattle.model.specs.Finite.{any, every, count}
use Rattle.model.specs.Step.{edge}
use Rattle.model.proofs.Bools.{by, false_of, clash}
use Rattle.model.proofs.Search.{any_intro, none_any, every_intro, every_elim}
use Rattle.shape.specs.Meaning.{mask}
use Rattle.shape.proofs.Lookups.{mask_beyond}

-- ---- `any` and `all` over 0..n, whose closure computes p below n

module _ (n : ℕ) (p : ℕ → Bool) where
  -- what holds of each number of the range holds below n
  each_below : (P : ℕ → Type 0) (k : ℕ) → k < n → ((d : ℕ) → P (get_or (range_with_len 0 n) k d)) → P k
  each_below P k h f = subst P (get_or-range_with_len 0 n k 0 h ∙ zero-add k) (f 0)

  abbrev Is : Bool → ℕ → Type 0
  Is b x = x < n → b ≡ p x

  any_cases : (r : Bool) → MatchBool r ((k : ℕ) × (k < length (range_with_len 0 n)) × HoldsAt (Is true) (range_with_len 0 n) k) (AllWithin (Is false) (range_with_len 0 n) 0 (length (range_with_len 0 n))) → r ≡ any n p
  any_cases true h =
      let k : h.0 < n = omega (arith, length-range_with_len 0 n, h.1) in
      sym (any_intro n p h.0 k (sym (each_below (Is true) h.0 k h.2 k)))
  any_cases false h =
      sym (none_any n p
      (λ k l e. clash e (sym (each_below (Is false) k l (λ d. h k d (omega arith) (omega (arith, length-range_with_len 0 n))) l))))

  all_cases : (r : Bool) → MatchBool r (AllWithin (Is true) (range_with_len 0 n) 0 (length (range_with_len 0 n))) ((k : ℕ) × (k < length (range_with_len 0 n)) × HoldsAt (Is false) (range_with_len 0 n) k) → r ≡ every n p
  all_cases true h =
      sym (every_intro n p (λ k l. sym (each_below (Is true) k l (λ d. h k d (omega arith) (omega (arith, length-range_with_len 0 n))) l)))
  all_cases false h =
      let k : h.0 < n = omega (arith, length-range_with_len 0 n, h.1) in
      sym (false_of (λ q. clash (every_elim n p q h.0 k) (sym (each_below (Is false) h.0 k h.2 k))))

  module _ {F : Type 0} {g : Mut F (ℕ × Unit {0}) Bool} (u : Range ℕ) (f : F) (r : Bool) where
    pub any_below : (xs : List ℕ) × (o : Option ℕ) × (j : F) × YieldsThen nat_range_steps (record { start = 0; end = n }) xs o u × FoldsTo (λ p x q. Called g p (x, tt) false q) f xs j × MatchOption o (r ≡ false) (λ x. (r ≡ true) × ((h : F) × Called g j (x, tt) true h))
        → ((x : ℕ) (b : Bool) (q : F) → Called g f (x, tt) b q → (q ≡ f) × (x < n → b ≡ p x)) → r ≡ any n p
    any_below d k =
        any_cases r (cases_from_any u f r (Is true) (Is false) d (YieldsList-from_range 0 n n refl (omega arith)) (λ x q c. (k x true q c).1) (λ x q. k x false q))

    pub all_below : (xs : List ℕ) × (o : Option ℕ) × (j : F) × YieldsThen nat_range_steps (record { start = 0; end = n }) xs o u × FoldsTo (λ p x q. Called g p (x, tt) true q) f xs j × MatchOption o (r ≡ true) (λ x. (r ≡ false) × ((h : F) × Called g j (x, tt) false h))
        → ((x : ℕ) (b : Bool) (q : F) → Called g f (x, tt) b q → (q ≡ f) × (x < n → b ≡ p x)) → r ≡ every n p
    all_below d k =
        all_cases r (cases_from_all u f r (Is true) (Is false) d (YieldsList-from_range 0 n n refl (omega arith)) (λ x q. k x true q) (λ x q c. (k x false q c).1))

-- ---- `filter` and `count` over 0..n: the closure computes the test, which is p below n

module _ (test p : ℕ → Bool) where
  counted : (a n : ℕ) → ((k : ℕ) → k < a + n → test k ≡ p k) → count a p + length (filter test (range_with_len a n)) ≡ count (a + n) p
  counted a zero h = rw (add-zero a) (add-zero (count a p))
  counted a (suc n) h =
      let e = counted (a + 1) n (λ k l. h k (omega arith)) in
      let i : a + 1 + n ≡ a + suc n = omega arith in
      let t = h a (omega arith) in
      by (test a)
      (λ q. rw (q, ← i, ← e, add-one a, (sym t ∙ q)) (omega arith))
      (λ q. rw (q, ← i, ← e, add-one a, (sym t ∙ q)) (omega arith))

  pub count_below : {F : Type 0} {g : Mut F (Bor ℕ × Unit {0}) Bool} (n : ℕ) (s : Filter (Range ℕ) F) (f : F) (r : ℕ)
      → (xs : List ℕ) × Drains (filter_steps nat_range_steps g) s xs × (r ≡ length xs)
      → filter_source s ≡ record { start = 0; end = n } → filter_callee s ≡ f
      → ((x : ℕ) (b : Bool) (q : F) → CalledAt g f x b q → (q ≡ f) × (b ≡ test x)) → ((k : ℕ) → k < n → test k ≡ p k) → r ≡ count n p
  count_below {g} n s f r d e h k t =
      count_from_yields_List s r d (YieldsList-from_filter g test (YieldsList-from_range 0 n n e (omega arith)) h k)
      ∙ sym (zero-add (length (filter test (range_with_len 0 n)))) ∙ counted 0 n (λ i l. t i (omega arith)) ∙ ap (λ m. count m p) (zero-add n)

-- ---- `array::from_fn`

module _ {F B : Type 0} {g : Mut F (ℕ × Unit {0}) B} (f : F) (ys : List B) (h : ℕ → B) (k : (x : ℕ) (y : B) (q : F) → Called g f (x, tt) y q → (q ≡ f) × (y ≡ h x)) where
  made_from : (i m : ℕ) → IsFromFnResultFrom g f ys i m → (j : ℕ) (e : B) → i ≤ j → j < i + m → get_or ys j e ≡ h j
  made_from i zero d j e l m = absurd (omega arith)
  made_from i (suc m) d j e l o =
      let c = k i d.1 d.0 d.3 in
      by (eqb j i)
      (λ q. rw (eqb-true j i q) (d.2.1 e ∙ c.1))
      (λ q. let z = eqb-false j i q in made_from (i + 1) m (subst (λ z. IsFromFnResultFrom g z ys (i + 1) m) c.0 d.4) j e (omega arith) (omega arith))

-- the array of the values of h, which is zero from the edge on
pub mask_made : {F : Type 0} {g : Mut F (ℕ × Unit {0}) ℕ} (f : F) (ys : List ℕ) (h : ℕ → ℕ) → IsFromFnResult g f ys edge
    → ((x : ℕ) (y : ℕ) (q : F) → Called g f (x, tt) y q → (q ≡ f) × (y ≡ h x)) → ((x : ℕ) → edge ≤ x → h x ≡ 0) → mask ys ≡ h
unfolding mask
mask_made f ys h d k z =
    fun_ext
    (λ x.
    by (ltb x edge)
    (λ q. made_from f ys h k 0 edge d.each x 0 (omega arith) (let l = ltb-true x edge q in omega arith))
    (λ q. mask_beyond ys x d.long (ltb-false x edge q) ∙ sym (z x (ltb-false x edge q))))

-- ---- `is_sorted_by` over the first n of an array

module _ (l : List ℕ) (n : ℕ) (h : n ≤ length l) where
  abbrev next_above : ℕ → Bool
  next_above a = ltb (mask l a) (mask l (a + 1))

  next_taken : (a : ℕ) → a + 1 < n → ltb (get_or (take n l) a 0) (get_or (take n l) (a + 1) 0) ≡ next_above a
  unfolding mask
  next_taken a i = ap₂ ltb (get_or-take n l a 0 (omega arith)) (get_or-take n l (a + 1) 0 i)

  pub rises_below : (r : Bool) → IsAllAdjacentAnswer (λ x y b. b ≡ ltb x y) (take n l) r → r ≡ every (n - 1) next_above
  rises_below true f =
      sym (every_intro (n - 1) next_above
      (λ a i. sym (next_taken a (omega arith)) ∙ sym (f a 0 (omega (arith, length-take-le n l h)))))
  rises_below false f =
      let i : f.0 + 1 < n = omega (arith, length-take-le n l h, f.1) in
      sym (false_of (λ q. clash (next_taken f.0 i ∙ every_elim (n - 1) next_above q f.0 (omega arith)) (sym (f.2 0))))
