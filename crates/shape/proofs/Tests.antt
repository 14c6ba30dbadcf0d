-- Searches and counts as loops find them.
use Prim.Native.Nat.{ℕ, zero, suc, ◌+◌, ◌≤◌, ◌<◌}
use mathlib.Core.Bool.{Bool, not, ◌&&◌}
use mathlib.Core.Logic.{◌≢◌}
use mathlib.Core.Path.{◌≡◌, sym, ◌∙◌}
use native.Mathlib.Omega.{arith}
use lib.Dec.{eqb, ltb}
use borrow.Author.Tests.{ltb-true, ltb-false, lt-ltb, le-ltb, ne_eqb}
use Rattle.model.specs.Finite.{any, count}
use Rattle.model.specs.Step.{edge}
use Rattle.model.proofs.Bools.{by}
use Rattle.model.proofs.Search.{any_cong}

-- one number further, a test that doesn't hold there
pub ltb_step : (x a : ℕ) → x ≢ a → ltb x a ≡ ltb x (a + 1)
ltb_step x a d =
    by (ltb x a)
    (λ q. let z = ltb-true x a q in q ∙ sym (lt-ltb x (a + 1) (omega arith)))
    (λ q. let z = ltb-false x a q in q ∙ sym (le-ltb x (a + 1) (omega arith)))

-- leaving out one beyond the edge leaves out none
pub none_left_out : (a : ℕ) (b : Bool) → a < edge → (not (eqb a edge) && b) ≡ b
none_left_out a b h = rw (ne_eqb a edge (λ e. omega arith))

pub any_all : (n : ℕ) (p : ℕ → Bool) → n ≤ edge → any n (λ a. not (eqb a edge) && p a) ≡ any n p
any_all n p h = any_cong n (λ a. not (eqb a edge) && p a) p (λ a l. none_left_out a (p a) (omega arith))

pub count_most : (n : ℕ) (p : ℕ → Bool) → count n p ≤ n
count_most zero p = omega arith
count_most (suc n) p =
    by (p n)
    (λ q. rw q (let z = count_most n p in omega arith))
    (λ q. rw q (let z = count_most n p in omega arith))
