-- What the verdict `accepted` has shown of a file: it was read, and every outcome of every listed shape is covered.
use Prim.Native.Nat.{ℕ, ◌<◌}
use mathlib.Core.Bool.{Bool, true, false, not}
use mathlib.Core.List.{List, [], ◌∷◌}
use mathlib.Core.Path.{◌≡◌, refl, sym, ap, subst}
use lib.Dec.{eqb, ltb}
use borrow.Author.Tests.{eqb-true}
use Rattle.model.specs.Finite.{Ref, null, at, null_ref, given, Some}
use Rattle.model.specs.Shape.{Shape, covered}
use Rattle.model.specs.Step.{outcomes}
use Rattle.model.specs.File.{Reading, fine, refused, reading}
use Rattle.model.specs.Claim.{Claim, listed, claim}
use Rattle.model.specs.Verdict.{Verdict, accepted, unreadable, no_entry, short_buffer, uncovered, lists_some, covered_there, lost, lost_from, lowest_lost, all_listed, inductive, judged, verdict}
use Rattle.model.proofs.Bools.{by, clash, and_left, and_right}
use Rattle.model.proofs.Search.{null_not_at, any_elim, any_intro, every_elim, Firstly, nowhere, firstly}
use Rattle.model.proofs.Lists.{All, none, also, all_each, all_given, all_weak, all_some, some_each, some_given}
use Rattle.model.proofs.Accepted.{ops_known, shape_allowed}
use Rattle.sound.specs.Shown.{Sound}

-- ---- acceptance is no refusal

abbrev accepts : Verdict → Bool
accepts (accepted a b) = true
accepts (unreadable fault place) = false
accepts no_entry = false
accepts (short_buffer n) = false
accepts (uncovered i s) = false

refuses : {X : Type 0} {a b : ℕ} (v : Verdict) → accepts v ≡ false → v ≡ accepted a b → X
refuses v n e = clash (ap accepts e) n

-- ---- the listed shapes of a claim, by number

module _ (C : Claim) where
  abbrev entry : ℕ → ℕ → List Shape
  entry p i = given (eqb (C.point i) p) (C.shape i)

  -- what holds of every shape that p lists
  pub listed_all : {P : Shape → Type 0} (p : ℕ) → ((i : ℕ) → i < C.shapes → C.point i ≡ p → P (C.shape i)) → All P (listed C p)
  listed_all {P} p h =
      all_each C.shapes (entry p) (λ i l. all_given P (eqb (C.point i) p) (C.shape i) (λ q. h i l (eqb-true (C.point i) p q)))

  pub listed_test : (p : ℕ) (test : Shape → Bool) → all_listed C p test ≡ true → All (λ T. test T ≡ true) (listed C p)
  unfolding all_listed
  listed_test p test e =
      all_each C.shapes (entry p) (λ i l.
      all_given (λ T. test T ≡ true) (eqb (C.point i) p) (C.shape i) (λ q. rw q at (every_elim C.shapes _ e i l)))

  -- where no shape is listed, there is none
  pub listed_none : {X : Type 0} {P : Shape → Type 0} (p : ℕ) → lists_some C p ≡ false → Some P (listed C p) → X
  unfolding lists_some
  listed_none {X} {P} p e s =
      absurd (all_some {P = λ T. ⊥} {Q = P} (λ T x y. x)
      (all_each C.shapes (entry p) (λ i l.
      all_given (λ T. ⊥) (eqb (C.point i) p) (C.shape i) (λ q. clash (any_intro C.shapes _ i l q) e)))
      s)

  -- ---- nothing is lost

  there : (w : ℕ × Shape) → covered_there C w ≡ true → Some (λ U. covered w.1 U ≡ true) (listed C w.0)
  unfolding covered_there
  there w e =
      let r = any_elim C.shapes _ e in
      let b = eqb (C.point r.0) w.0 in
      let c = covered w.1 (C.shape r.0) in
      some_each C.shapes (entry w.0) r.0 r.1
      (some_given (λ U. covered w.1 U ≡ true) b (C.shape r.0) (and_left b c r.2) (and_right b c r.2))

  none_lost : (l : List (ℕ × Shape)) → lost C l ≡ null → All (λ w. covered_there C w ≡ true) l
  unfolding lost
  none_lost [] e = none
  none_lost (w ∷ l) e =
      by (covered_there C w)
      (λ q. also q (none_lost l (rw q at e)))
      (λ q. null_not_at (sym (rw q at e)))

  first_null : (n : ℕ) (t : ℕ → Bool) (r : Ref) → Firstly n t r → r ≡ null → (a : ℕ) → a < n → t a ≡ false
  first_null n t null (nowhere g) q a h = g a h
  first_null n t (at b) w q a h = null_not_at (sym q)

  is_null : (r : Ref) → not (null_ref r) ≡ false → r ≡ null
  is_null null e = refl
  is_null (at a) e = clash refl e

  none_from : lowest_lost C ≡ null → (i : ℕ) → i < C.shapes → lost_from C i ≡ null
  unfolding lowest_lost
  none_from e i h = is_null _ (first_null C.shapes _ _ (firstly C.shapes (λ j. not (null_ref (lost_from C j)))) e i h)

  all_covered : lowest_lost C ≡ null → (p : ℕ) → All (λ T. All (λ w. Some (λ U. covered w.1 U ≡ true) (listed C w.0)) (outcomes (C.op p) T)) (listed C p)
  unfolding lost_from
  all_covered e p =
      listed_all p (λ i l q.
      all_weak there
      (none_lost (outcomes (C.op p) (C.shape i))
      (subst (λ (z : ℕ). lost C (outcomes (C.op z) (C.shape i)) ≡ null) q (none_from e i l))))

  -- ---- the order 7, 9, 8 ends in acceptance only where nothing is lost

  judged_accepts : (room a b : ℕ) → judged C room ≡ accepted a b → lowest_lost C ≡ null
  unfolding judged
  judged_accepts room a b e = go (lowest_lost C) refl
    where
      go : (r : Ref) → lowest_lost C ≡ r → r ≡ null
      go null q = refl
      go (at i) q =
          by (lists_some C 0)
          (λ x.
          by (ltb room C.points)
          (λ y. refuses (short_buffer C.points) refl (rw (x, y) at e))
          (λ y. refuses (inductive C (at i)) refl (rw (x, y, q) at e)))
          (λ x. refuses no_entry refl (rw x at e))

-- ---- a file

module _ (f : List ℕ) (room a b : ℕ) (ok : verdict f room ≡ accepted a b) where
  pub accepted_fine : reading f ≡ fine
  unfolding verdict
  accepted_fine = go (reading f) refl
    where
      go : (r : Reading) → reading f ≡ r → r ≡ fine
      go fine q = refl
      go (refused fault place) q = refuses (unreadable fault place) refl (rw q at ok)

  judged_ok : judged (claim f) room ≡ accepted a b
  unfolding verdict
  judged_ok = rw accepted_fine at ok

  pub accepted_sound : Sound (claim f)
  accepted_sound = record {
    uses = ops_known f accepted_fine;
    allowed = λ p. listed_all (claim f) p (λ i l q. shape_allowed f accepted_fine i l);
    covered = all_covered (claim f) (judged_accepts (claim f) room a b judged_ok);
  }
