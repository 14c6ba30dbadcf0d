-- How many items of a list pass a test, counted by their places.
use Prim.Native.Nat.{ℕ, zero, suc, ◌+◌}
use mathlib.Core.Bool.{Bool, true, false, cond}
use mathlib.Core.List.{List, ◌∷◌}
use mathlib.Core.Path.{◌≡◌, refl, sym, ◌∙◌}
use native.Mathlib.Omega.{arith}
use lib.ListN.{length, get_or}
use Rattle.std.specs.List.{count_by}
use Rattle.std.proofs.lemmas.List.Recursion.{is_count_by}
use Rattle.model.specs.Finite.{count}

-- the first place counts first
first_counts : (n : ℕ) (p : ℕ → Bool) → count (suc n) p ≡ cond (p 0) 1 0 + count n (λ k. p (suc k))
first_counts zero p = omega arith
first_counts (suc n) p = omega (arith, first_counts n p)

added : (b : Bool) (n : ℕ) → cond b 1 0 + n ≡ cond b (1 + n) n
added true n = refl
added false n = omega arith

pub counted : (test : ℕ → Bool) (l : List ℕ) → count_by test l ≡ count (length l) (λ p. test (get_or l p 0))
counted test l =
    sym
    (is_count_by (λ l. count (length l) (λ p. test (get_or l p 0))) test refl
    (λ x l. first_counts (length l) (λ p. test (get_or (x ∷ l) p 0)) ∙ added (test x) _) l)
