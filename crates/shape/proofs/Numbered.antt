-- Statements by the numbers of their ops.
use Prim.Native.Nat.{ℕ, zero, suc, ◌<◌}
use mathlib.Core.Logic.{◌≢◌}
use mathlib.Core.Path.{◌≡◌, refl}
use native.Mathlib.Omega.{arith}
use lib.Dec.{eqb}
use borrow.Author.Tests.{eqb-true, eqb-false, ne_eqb, le-ltb}
use Rattle.model.specs.Store.{stop, at_point}
use Rattle.model.specs.Shape.{Shape}
use Rattle.model.specs.Claim.{op_of}
use Rattle.model.proofs.Bools.{by}
use Rattle.shape.specs.Slots.{places, places_of, result_slot, through_slot}

-- there are ten ops
pub by_op : (P : ℕ → Type 0) → P 0 → P 1 → P 2 → P 3 → P 4 → P 5 → P 6 → P 7 → P 8 → P 9 → ((o : ℕ) → 9 < o → P o) → (o : ℕ) → P o
by_op P p0 p1 p2 p3 p4 p5 p6 p7 p8 p9 more zero = p0
by_op P p0 p1 p2 p3 p4 p5 p6 p7 p8 p9 more (suc zero) = p1
by_op P p0 p1 p2 p3 p4 p5 p6 p7 p8 p9 more (suc (suc zero)) = p2
by_op P p0 p1 p2 p3 p4 p5 p6 p7 p8 p9 more (suc (suc (suc zero))) = p3
by_op P p0 p1 p2 p3 p4 p5 p6 p7 p8 p9 more (suc (suc (suc (suc zero)))) = p4
by_op P p0 p1 p2 p3 p4 p5 p6 p7 p8 p9 more (suc (suc (suc (suc (suc zero))))) = p5
by_op P p0 p1 p2 p3 p4 p5 p6 p7 p8 p9 more (suc (suc (suc (suc (suc (suc zero)))))) = p6
by_op P p0 p1 p2 p3 p4 p5 p6 p7 p8 p9 more (suc (suc (suc (suc (suc (suc (suc zero))))))) = p7
by_op P p0 p1 p2 p3 p4 p5 p6 p7 p8 p9 more (suc (suc (suc (suc (suc (suc (suc (suc zero)))))))) = p8
by_op P p0 p1 p2 p3 p4 p5 p6 p7 p8 p9 more (suc (suc (suc (suc (suc (suc (suc (suc (suc zero))))))))) = p9
by_op P p0 p1 p2 p3 p4 p5 p6 p7 p8 p9 more (suc (suc (suc (suc (suc (suc (suc (suc (suc (suc o)))))))))) =
    more (suc (suc (suc (suc (suc (suc (suc (suc (suc (suc o)))))))))) (omega arith)

module _ (x y s1 s2 : ℕ) where
  -- any other number stops
  pub no_op : (o : ℕ) → 9 < o → op_of o x y s1 s2 ≡ stop
  no_op o h =
      rw (ne_eqb o 1 (λ e. omega arith), ne_eqb o 2 (λ e. omega arith), ne_eqb o 3 (λ e. omega arith), ne_eqb o 4 (λ e. omega arith), ne_eqb o 5 (λ e. omega arith), ne_eqb o 6 (λ e. omega arith), ne_eqb o 7 (λ e. omega arith), ne_eqb o 8 (λ e. omega arith), ne_eqb o 9 (λ e. omega arith))

  pub places_numbered : (n o : ℕ) → places (op_of o x y s1 s2) n ≡ places_of o n
  places_numbered n =
      by_op (λ o. places (op_of o x y s1 s2) n ≡ places_of o n) refl refl refl refl refl refl refl refl refl refl
      (λ o h.
      rw (no_op o h, ne_eqb o 5 (λ e. omega arith), ne_eqb o 6 (λ e. omega arith), ne_eqb o 7 (λ e. omega arith), le-ltb o 1 (omega arith), le-ltb o 10 (omega arith)))

  -- ops 5 to 7, which go through a link
  module _ (W : Shape) (j : ℕ) where
    pub through_numbered : (o : ℕ) → 4 < o → o < 8 → result_slot (op_of o x y s1 s2) W j ≡ at_point s1 (through_slot o x y W j)
    through_numbered o h k =
        by (eqb o 5)
        (λ q. rw (eqb-true o 5 q))
        (λ q.
        by (eqb o 6)
        (λ p. rw (eqb-true o 6 p))
        (λ p.
        let d : o ≢ 5 = eqb-false o 5 q in
        let f : o ≢ 6 = eqb-false o 6 p in
        let e : o ≡ 7 = omega arith in
        rw e))
