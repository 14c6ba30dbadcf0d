-- The marks of the answer hold of every store that fits a shape listed at the point: each mark is a test that every listed
-- shape passes, and fit carries it over to the store.
use Prim.Native.Nat.{ℕ, ◌+◌, ◌/◌, ◌%◌, ◌<◌}
use mathlib.Core.Bool.{true, false, cond, not}
use mathlib.Core.Path.{◌≡◌, refl, ◌∙◌}
use native.Mathlib.Omega.{arith}
use Rattle.model.specs.Finite.{Ref, null, at, null_ref, Some}
use Rattle.model.specs.Store.{Store, Proper, Op, stop, go, set_null, set_var, set_new, load, cut, store, is_null, is_same, goes_through, null_at}
use Rattle.model.specs.Shape.{Fits, holder}
use Rattle.model.specs.Claim.{Claim, listed}
use Rattle.model.specs.Verdict.{lists_some, all_listed, low_part, none_shared, answer_byte}
use Rattle.model.proofs.Bools.{by, not_true}
use Rattle.model.proofs.Search.{null_not_at, every_elim}
use Rattle.model.proofs.Lists.{all_some, all_zip}
use Rattle.model.proofs.Accepted.{Uses}
use Rattle.model.proofs.Verdicts.{low_few}
use Rattle.sound.proofs.Keys.{ascend_keyed}
use Rattle.sound.proofs.Fit.{fits_null, fits_unshared}
use Rattle.sound.specs.Shown.{Sound, MarksHold}
use Rattle.sound.proofs.Accepts.{listed_test, listed_none}

-- ---- the bytes

module _ (C : Claim) (p : ℕ) where
  abbrev low : ℕ
  low = low_part C p (goes_through (C.op p))

  -- where a shape is listed, the byte is the low part, with 4 or without
  byte_is : lists_some C p ≡ true → answer_byte C p ≡ low + cond (all_listed C p none_shared) 4 0
  unfolding answer_byte
  byte_is q = rw q

  -- byte 3: no shape is listed
  byte_3 : answer_byte C p ≡ 3 → lists_some C p ≡ false
  byte_3 e =
      by (lists_some C p)
      (λ q.
      let b = byte_is q in
      let l = low_few C p (goes_through (C.op p)) in
      by (all_listed C p none_shared) (λ a. absurd (let z = rw a at b in omega arith)) (λ a. absurd (let z = rw a at b in omega arith)))
      (λ q. q)

  -- plus 4: no listed shape has a shared individual
  byte_4 : lists_some C p ≡ true → answer_byte C p / 4 % 2 ≡ 1 → all_listed C p none_shared ≡ true
  byte_4 q e =
      by (all_listed C p none_shared) (λ a. a) (λ a.
      absurd (let z = rw a at (byte_is q) in let l = low_few C p (goes_through (C.op p)) in omega arith))

  -- low part 1: every listed shape has the variable set
  byte_1 : lists_some C p ≡ true → answer_byte C p % 4 ≡ 1 → low ≡ 1
  byte_1 q e =
      let l = low_few C p (goes_through (C.op p)) in
      by (all_listed C p none_shared) (λ a. let z = rw a at (byte_is q) in omega arith) (λ a. let z = rw a at (byte_is q) in omega arith)

  low_1 : (x : ℕ) → low_part C p (at x) ≡ 1 → all_listed C p (λ T. not (null_ref (holder T x))) ≡ true
  low_1 x e =
      by (all_listed C p (λ T. not (null_ref (holder T x)))) (λ q. q) (λ q. absurd (let z : ◌≡◌ {A = ℕ} 2 1 = rw q at e in omega arith))

-- an op goes through one of its variables
through_known : (v x : ℕ) (o : Op) → Uses v o → goes_through o ≡ at x → x < v
through_known v x stop u q = null_not_at q
through_known v x (go s) u q = null_not_at q
through_known v x (set_null y s) u q = null_not_at q
through_known v x (set_var y w s) u q = null_not_at q
through_known v x (set_new y s) u q = null_not_at q
through_known v x (load y w s) u q = let e : w ≡ x = cc in let z = u.1 in omega arith
through_known v x (cut y s) u q = let e : y ≡ x = cc in omega arith
through_known v x (store y w s) u q = let e : y ≡ x = cc in let z = u.0 in omega arith
through_known v x (is_null y s t) u q = null_not_at q
through_known v x (is_same y w s t) u q = null_not_at q

-- ---- a store that fits a shape listed at p

module _ (C : Claim) (s : Sound C) (p : ℕ) (σ : Store) (ok : Proper C.vars σ) (fit : Some (Fits C.vars σ) (listed C p)) where
  not_unlisted : {X : Type 0} → lists_some C p ≡ false → X
  not_unlisted q = listed_none C p q fit

  listed_there : lists_some C p ≡ true
  listed_there = by (lists_some C p) (λ q. q) (λ q. not_unlisted q)

  -- the variable that every listed shape has set is set
  is_set : (x : ℕ) → x < C.vars → all_listed C p (λ T. not (null_ref (holder T x))) ≡ true → null_ref (σ.var x) ≡ false
  is_set x l e =
      all_some
      (λ T t f. fits_null C.vars σ ok T t.0.held (ascend_keyed T t.0.ascend) f x l ∙ not_true t.1)
      (all_zip (s.allowed p) (listed_test C p _ e))
      fit

  not_through_null : (q : Ref) → goes_through (C.op p) ≡ q → low_part C p q ≡ 1 → null_at q σ ≡ false
  not_through_null null g e = absurd (omega arith)
  not_through_null (at x) g e = is_set x (through_known C.vars x (C.op p) (s.uses p) g) (low_1 C p x e)

  not_shared : all_listed C p none_shared ≡ true → (a b c : ℕ) → a < σ.size → b < σ.size → σ.n a ≡ at c → σ.n b ≡ at c → a ≡ b
  not_shared e a b c h k x y =
      all_some
      (λ T t f. fits_unshared C.vars σ T f (λ i l. not_true (every_elim T.size _ t i l)) a b c (ok.n a c h x) h k x y)
      (listed_test C p none_shared e)
      fit

pub marks_hold : (C : Claim) → Sound C → MarksHold C
marks_hold C s p σ ok fit = record {
  excluded = λ e. not_through_null C s p σ ok fit (goes_through (C.op p)) refl (byte_1 C p (listed_there C s p σ ok fit) e);
  unshared = λ e. not_shared C s p σ ok fit (byte_4 C p (listed_there C s p σ ok fit) e);
  never_reached = λ e. not_unlisted C s p σ ok fit (byte_3 C p e);
}
