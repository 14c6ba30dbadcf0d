-- The stages of a step, from what the code's tests say.
use Prim.Native.Nat.{ℕ, ◌+◌, ◌-◌, ◌/◌, ◌%◌, ◌≤◌}
use mathlib.Core.Bool.{true, false, ◌&&◌}
use mathlib.Core.List.{List, [], ◌∷◌, ◌++◌}
use mathlib.Core.Logic.{◌≢◌}
use mathlib.Core.Path.{◌≡◌, refl, ap, fun_ext}
use native.Mathlib.Omega.{arith}
use lib.Dec.{eqb}
use borrow.Author.Tests.{eqb-true, eq-eqb, ne_eqb, le-leb}
use Rattle.model.specs.Truth.{sure}
use Rattle.model.specs.Shape.{Shape}
use Rattle.model.specs.Step.{edge, with_n, into, sharing, sure_but, whole, divided, possible, divides, settled, sure_if, ones, now_unshared}
use Rattle.model.proofs.Bools.{by, and_left, and_right}
use Rattle.shape.specs.Meaning.{grid, column}
use Rattle.shape.specs.Slots.{open_slot, opens}
use Rattle.shape.proofs.Grid.{grid_low}

-- ---- opening

-- at an even place that opens v is divided
pub divided_slot : (W : Shape) (u j v : ℕ) → j ≢ 0 → j % 2 ≢ 1 → v ≡ (j - 1) / 2 → opens W u j ≡ true → settled (whole (divided W v) u v) u v ≡ open_slot W u j
divided_slot W u j v z d e o =
    let f : (j + 1) / 2 - 1 ≡ v = omega arith in
    let p : (divides W u v && possible W u v) ≡ true = rw (ne_eqb j 0 z, ne_eqb (j % 2) 1 d, f) at o in
    rw (ne_eqb j 0 z, eq-eqb (j % 2) 0 (omega arith), f, and_right (divides W u v) (possible W u v) p, and_left (divides W u v) (possible W u v) p)

-- ---- clearing

pub unshared : (W : Shape) (t i : ℕ) (R : Shape) → i ≡ ones W t → i ≤ 1 → R ≡ with_n W (sharing t false (into t (sure_if (eqb i 1)) W.n)) → R ∷ [] ≡ now_unshared W t
unshared W t i R e l f = rw (← e, le-leb i 1 l) (ap (λ U. U ∷ []) f)

-- leaving out one beyond the edge leaves out none
pub sure_all : (t : ℕ) (l : List ℕ) → column t (sure_but edge) (grid l) ≡ column t (λ a v. sure v) (grid l)
sure_all t l =
    fun_ext
    (λ x.
    fun_ext
    (λ b.
    by (eqb b t)
    (λ q.
    rw q
    (by (eqb x edge)
    (λ y. rw y (let z = grid_low l x b (let e = eqb-true x edge y in omega arith) in rw (← z)))
    (λ y. rw y)))
    (λ q. rw q)))

-- ---- lists of at most one

pub end_nil : {A : Type 0} (l : List A) → l ++ [] ≡ l
end_nil [] = refl
end_nil (a ∷ l) = ap (λ m. a ∷ m) (end_nil l)
