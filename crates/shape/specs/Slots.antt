-- The results of opening, clearing and linking one by one: at a place number one result, if it is given, or none.
-- proofs/Places shows that in the order of the places they are the lists of the definitions.
use Rattle.std.specs.Prelude.{ℕ, suc, ◌+◌, ◌-◌, ◌*◌, ◌/◌, ◌%◌, ◌≤◌, Bool, true, false, cond, not, ◌&&◌, List, [], ◌∷◌, map, Option, None, Some, IfSome, ◌≡◌, eqb, ltb}
use Rattle.model.specs.Truth.{𝟘, 𝟙, may, must}
use Rattle.model.specs.Finite.{Ref, null, at, null_ref, equal, any, given, in_each}
use Rattle.model.specs.Store.{Op, stop, go, set_null, set_var, set_new, load, cut, store, is_null, is_same, at_point}
use Rattle.model.specs.Shape.{Shape, holder}
use Rattle.model.specs.Step.{edge, Opened, no_target, with_n, into, sharing, from_u, all_zero, whole, divided, settled, possible, divides, now_unshared, still_shared, moved, fresh, at_holder, folded_result}
use Rattle.shape.specs.Meaning.{meaning, trimmed, trimmed_result}
use Rattle.shape.specs.declared.Outcome.{Outcome}

-- ---- opening

-- v whole, or divided
abbrev pub target : Shape → ℕ → ℕ → Bool → List Opened
target W u v false = cond (possible W u v) (settled (whole W u v) u v) []
target W u v true = cond (possible W u v) (cond (divides W u v) (settled (whole (divided W v) u v) u v) []) []

-- 0 without target; 1 + 2 v with v whole, 2 + 2 v with v divided
abbrev pub open_slot : Shape → ℕ → ℕ → List Opened
open_slot W u j = cond (eqb j 0) (no_target W u) (target W u ((j + 1) / 2 - 1) (eqb (j % 2) 0))

-- what is asked before anything is built: place j has no result where this fails
abbrev pub opens : Shape → ℕ → ℕ → Bool
opens W u j =
    cond (eqb j 0)
    (not (any W.size (λ b. must (W.n.link u b))))
    (cond (eqb (j % 2) 1)
    (possible W u ((j + 1) / 2 - 1))
    (divides W u ((j + 1) / 2 - 1) && possible W u ((j + 1) / 2 - 1)))

-- ---- clearing: first the result with t unshared, then the one with t still shared

abbrev pub cut_slot : Bool → ℕ → Shape → ℕ → List Shape
cut_slot still u W t =
    let W₁ : Shape = with_n W (into t (from_u u 𝟘) W.n) in
    cond (W.n.shared t) (cond still (still_shared W₁ t) (now_unshared W₁ t)) (given (not still) W₁)

abbrev pub unlink_slot : Bool → ℕ → Shape → Ref → List Shape
unlink_slot still u W null = given (not still) W
unlink_slot still u W (at t) = cut_slot still u W t

abbrev pub clear_slot : Shape → ℕ → ℕ → List Shape
clear_slot W u j = in_each (λ o. unlink_slot (eqb (j % 2) 1) u o.shape o.target) (open_slot W u (j / 2))

-- ---- linking: the first result, the second

abbrev pub tie_slot : Bool → ℕ → Shape → ℕ → List Shape
tie_slot second u W w =
    cond (W.n.shared w)
    (given (not second) (with_n W (into w (from_u u 𝟙) W.n)))
    (cond second
    (given (any W.size (λ a. may (W.n.link a w))) (with_n W (into w (from_u u 𝟙) (sharing w true W.n))))
    (given (not (any W.size (λ a. must (W.n.link a w)))) (with_n W (into w (from_u u 𝟙) (into w all_zero W.n)))))

abbrev pub link_slot : Bool → ℕ → Ref → Shape → List Shape
link_slot second u null W = given (not second) W
link_slot second u (at w) W = tie_slot second u W w

abbrev pub store_slot : Shape → ℕ → Ref → ℕ → List Shape
store_slot W u y j = in_each (link_slot (eqb (j % 2) 1) u y) (clear_slot W u (j / 2))

-- ---- loading

abbrev pub load_slot : Shape → ℕ → ℕ → ℕ → List Shape
load_slot W u x j = map (λ o. moved o.shape x o.target) (open_slot W u j)

-- ---- ops 5 to 7 by their numbers

abbrev pub through_slot : ℕ → ℕ → ℕ → Shape → ℕ → List Shape
through_slot op x y W j =
    cond (eqb op 5)
    (at_holder (holder W y) (λ u. load_slot W u x j))
    (cond (eqb op 6)
    (at_holder (holder W x) (λ u. clear_slot W u j))
    (at_holder (holder W x) (λ u. store_slot W u (holder W y) j)))

-- ---- a statement: how many places it has, and the result at each

abbrev pub places : Op → ℕ → ℕ
places stop n = 0
places (go s) n = 1
places (set_null x s) n = 1
places (set_var x y s) n = 1
places (set_new x s) n = 1
places (load x y s) n = suc (2 * n)
places (cut x s) n = 2 * suc (2 * n)
places (store x y s) n = 2 * (2 * suc (2 * n))
places (is_null x s₁ s₂) n = 1
places (is_same x y s₁ s₂) n = 1

-- the same by the number of the op (proofs/Numbered)
abbrev pub places_of : ℕ → ℕ → ℕ
places_of op n =
    cond (eqb op 5) (suc (2 * n))
    (cond (eqb op 6) (2 * suc (2 * n))
    (cond (eqb op 7) (2 * (2 * suc (2 * n))) (cond (ltb op 1) 0 (cond (ltb op 10) 1 0))))

abbrev pub result_slot : Op → Shape → ℕ → List (ℕ × Shape)
result_slot stop W j = []
result_slot (go s) W j = (s, W) ∷ []
result_slot (set_null x s) W j = (s, moved W x null) ∷ []
result_slot (set_var x y s) W j = (s, moved W x (holder W y)) ∷ []
result_slot (set_new x s) W j = (s, fresh W x) ∷ []
result_slot (load x y s) W j = at_point s (at_holder (holder W y) (λ u. load_slot W u x j))
result_slot (cut x s) W j = at_point s (at_holder (holder W x) (λ u. clear_slot W u j))
result_slot (store x y s) W j = at_point s (at_holder (holder W x) (λ u. store_slot W u (holder W y) j))
result_slot (is_null x s₁ s₂) W j = (cond (null_ref (holder W x)) s₁ s₂, W) ∷ []
result_slot (is_same x y s₁ s₂) W j = (cond (equal (holder W x) (holder W y)) s₁ s₂, W) ∷ []

-- folded, and nothing beyond its individuals
abbrev pub outcome_slot : Op → Shape → ℕ → List (ℕ × Shape)
outcome_slot o W j = map trimmed_result (map folded_result (result_slot o W j))

-- the list of the one outcome, or the empty list
abbrev pub out : Option Outcome → List (ℕ × Shape)
out None = []
out (Some o) = (o.successor, trimmed (meaning o.shape)) ∷ []

-- o is what the list l has, and stays within the edge
pub record Yields (l : List (ℕ × Shape)) (o : Option Outcome) : Type 0 where
  pub is : out o ≡ l
  pub size : IfSome o (λ r. r.shape.n ≤ edge)
