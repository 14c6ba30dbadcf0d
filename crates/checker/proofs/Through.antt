-- Which variable a statement goes through, by the number of its op: "y in 5, x in 6 and 7".
use Prim.Native.Nat.{ℕ, ◌<◌}
use mathlib.Core.Bool.{cond, ◌||◌}
use mathlib.Core.Logic.{◌≢◌}
use mathlib.Core.Path.{◌≡◌, refl, sym, ap, ◌∙◌}
use native.Mathlib.Omega.{arith}
use lib.Dec.{eqb}
use borrow.Author.Tests.{eq-eqb, ne_eqb}
use Rattle.model.specs.Finite.{null, at}
use Rattle.model.specs.Store.{goes_through}
use Rattle.model.specs.Claim.{op_of}
use Rattle.model.proofs.Bools.{same_or_not}
use Rattle.shape.proofs.Numbered.{by_op, no_op}

module _ (x y s1 s2 : ℕ) where
  by_number : (o : ℕ) → goes_through (op_of o x y s1 s2) ≡ cond (eqb o 5) (at y) (cond (eqb o 6 || eqb o 7) (at x) null)
  by_number =
      by_op (λ o. goes_through (op_of o x y s1 s2) ≡ cond (eqb o 5) (at y) (cond (eqb o 6 || eqb o 7) (at x) null))
      refl refl refl refl refl refl refl refl refl refl (λ o h.
      ap goes_through (no_op x y s1 s2 o h)
      ∙ sym (rw (ne_eqb o 5 (λ z. omega arith), ne_eqb o 6 (λ z. omega arith), ne_eqb o 7 (λ z. omega arith))))

  pub through_y : (o : ℕ) → o ≡ 5 → goes_through (op_of o x y s1 s2) ≡ at y
  through_y o e = by_number o ∙ rw (eq-eqb o 5 e)

  pub through_x : (o : ℕ) → 5 < o → o < 8 → goes_through (op_of o x y s1 s2) ≡ at x
  through_x o h k =
      by_number o
      ∙ rw (ne_eqb o 5 (λ z. omega arith)) (same_or_not o 6 (λ z. rw (eq-eqb o 6 z)) (λ z. rw (ne_eqb o 6 z, eq-eqb o 7 (omega arith))))

  pub through_none : (o : ℕ) → o ≢ 5 → o ≢ 6 → o ≢ 7 → goes_through (op_of o x y s1 s2) ≡ null
  through_none o a b d = by_number o ∙ rw (ne_eqb o 5 a, ne_eqb o 6 b, ne_eqb o 7 d)
