-- The verdict case by case, for code that decides in the paper's order: 1 to 6, then 7, 9, 8, and acceptance. And the search
-- for a lost outcome, result by result.
use Prim.Native.Nat.{ℕ, zero, suc, ◌+◌, ◌%◌, ◌≤◌, ◌<◌}
use mathlib.Core.Bool.{true, false, not, ◌&&◌}
use mathlib.Core.List.{List, [], ◌∷◌, ◌++◌}
use mathlib.Core.Path.{◌≡◌, refl, sym, ap, ◌∙◌}
use native.Mathlib.Numerals.{add-one}
use native.Mathlib.Omega.{arith}
use lib.Dec.{eqb}
use lib.ListN.{length, drop}
use borrow.Author.Tests.{lt-ltb, le-ltb}
use Rattle.model.specs.Finite.{Ref, null, at, null_ref, any, count, each}
use Rattle.model.specs.Store.{goes_through}
use Rattle.model.specs.Shape.{Shape, holder}
use Rattle.model.specs.File.{Fault, fine, refused, reading, points, shapes}
use Rattle.model.specs.Claim.{Claim, claim}
use Rattle.model.specs.Verdict.{Verdict, accepted, unreadable, no_entry, short_buffer, uncovered, lists_some, covered_there, lost, lost_from, lowest_lost, all_listed, low_part, none_shared, answer_byte, open_points, judged, verdict, table, buffer_after}
use Rattle.model.proofs.Bools.{by, top_or_below}
use Rattle.model.proofs.Search.{null_not_at, first_none, first_hit, count_cong}

-- ---- the results of a shape, one after the other

module _ (C : Claim) where
  -- nothing was lost so far
  pub lost_none : lost C [] ≡ null
  unfolding lost
  lost_none = refl

  pub lost_on : (l m : List (ℕ × Shape)) → lost C l ≡ null → lost C (l ++ m) ≡ lost C m
  unfolding lost
  lost_on [] m e = refl
  lost_on (r ∷ l) m e =
      by (covered_there C r) (λ q. rw q (lost_on l m (rw q at e))) (λ q. null_not_at (sym (rw q at e)))

  -- what is lost first stays so
  pub lost_stays : (l m : List (ℕ × Shape)) (s : ℕ) → lost C l ≡ at s → lost C (l ++ m) ≡ at s
  unfolding lost
  lost_stays [] m s e = null_not_at e
  lost_stays (r ∷ l) m s e =
      by (covered_there C r) (λ q. rw q (lost_stays l m s (rw q at e))) (λ q. rw q (rw q at e))

  pub lost_covered : (r : ℕ × Shape) → covered_there C r ≡ true → lost C (r ∷ []) ≡ null
  unfolding lost
  lost_covered r e = rw e

  pub lost_uncovered : (r : ℕ × Shape) → covered_there C r ≡ false → lost C (r ∷ []) ≡ at r.0
  unfolding lost
  lost_uncovered r e = rw e

  -- the results place by place: `each n f` is the list, f j the results at place j
  module _ (f : ℕ → List (ℕ × Shape)) where
    pub each_none : lost C (each 0 f) ≡ null
    each_none = lost_none

    pub each_more : (j : ℕ) → lost C (each j f) ≡ null → lost C (f j) ≡ null → lost C (each (j + 1) f) ≡ null
    each_more j e h = rw (add-one j) (lost_on (each j f) (f j) e ∙ h)

    pub each_lost : (n j s : ℕ) → j < n → lost C (each j f) ≡ null → lost C (f j) ≡ at s → lost C (each n f) ≡ at s
    each_lost zero j s l e h = absurd (omega arith)
    each_lost (suc n) j s l e h =
        top_or_below n j l
        (λ q. rw (← q) (lost_on (each j f) (f j) e ∙ h))
        (λ k. lost_stays (each n f) (f n) s (each_lost n j s k e h))

  -- ---- the lowest shape number

  pub lowest_none : any C.shapes (λ i. not (null_ref (lost_from C i))) ≡ false → lowest_lost C ≡ null
  unfolding lowest_lost
  lowest_none e = first_none _ C.shapes e

  pub lowest_at : (i s : ℕ) → i < C.shapes → any i (λ i. not (null_ref (lost_from C i))) ≡ false → lost_from C i ≡ at s → lowest_lost C ≡ at i
  unfolding lowest_lost
  lowest_at i s l e h = first_hit _ C.shapes i l e (ap (λ r. not (null_ref r)) h)

  -- ---- open points, by the bytes

  pub low_few : (p : ℕ) (r : Ref) → low_part C p r ≤ 2
  low_few p null = omega arith
  low_few p (at x) = by (all_listed C p (λ T. not (null_ref (holder T x)))) (λ q. rw q (omega arith)) (λ q. rw q (omega arith))

  open_byte : (p : ℕ) → (lists_some C p && eqb (low_part C p (goes_through (C.op p))) 2) ≡ eqb (answer_byte C p % 4) 2
  unfolding answer_byte
  open_byte p =
      by (lists_some C p)
      (λ q.
      rw q
      (by (all_listed C p none_shared)
      (λ a. rw a (ap (λ v. eqb v 2) (low_mod 4 refl)))
      (λ a. rw a (ap (λ v. eqb v 2) (low_mod 0 refl)))))
      (λ q. rw q)
    where
      low_mod : (b : ℕ) → b % 4 ≡ 0 → low_part C p (goes_through (C.op p)) ≡ (low_part C p (goes_through (C.op p)) + b) % 4
      low_mod b e = let l = low_few p (goes_through (C.op p)) in omega arith

  pub open_by_bytes : open_points C ≡ count C.points (λ p. eqb (answer_byte C p % 4) 2)
  unfolding open_points
  open_by_bytes = count_cong C.points _ _ (λ p l. open_byte p)

-- ---- a file that is refused

module _ (f out : List ℕ) where
  -- the verdict on f, and the buffer afterwards
  abbrev pub Decided : Verdict → List ℕ → Type 0
  Decided v after = (v ≡ verdict f (length out)) × (after ≡ buffer_after f out)

  pub not_read : (fault : Fault) (place : ℕ) → reading f ≡ refused fault place → Decided (unreadable fault place) out
  unfolding verdict buffer_after
  not_read fault place e = (rw e, rw e)

  module _ (e : reading f ≡ fine) where
    pub not_entered : lists_some (claim f) 0 ≡ false → Decided no_entry out
    unfolding verdict buffer_after judged
    not_entered q = (rw (e, q), rw (e, q))

    module _ (q : lists_some (claim f) 0 ≡ true) where
      pub too_short : length out < points f → Decided (short_buffer (points f)) out
      unfolding verdict buffer_after judged
      too_short h = (rw (e, q, lt-ltb (length out) (points f) h), rw (e, q, lt-ltb (length out) (points f) h))

      module _ (h : points f ≤ length out) where
        pub not_covered : (i s : ℕ) → lowest_lost (claim f) ≡ at i → lost_from (claim f) i ≡ at s → Decided (uncovered i s) out
        unfolding verdict buffer_after judged
        not_covered i s k l = (rw (e, q, le-ltb (length out) (points f) h, k, l), rw (e, q, le-ltb (length out) (points f) h, k))

        pub all_covered : lowest_lost (claim f) ≡ null → Decided (accepted (shapes f) (open_points (claim f))) (table (answer_byte (claim f)) (points f) ++ drop (points f) out)
        unfolding verdict buffer_after judged
        all_covered k = (rw (e, q, le-ltb (length out) (points f) h, k), rw (e, q, le-ltb (length out) (points f) h, k))
