-- The results one by one, in the order of their places, are the results of the definition: none is lost, none added.
use Prim.Native.Nat.{ℕ, zero, suc, ◌+◌, ◌-◌, ◌*◌, ◌/◌, ◌%◌, ◌<◌}
use mathlib.Core.Bool.{Bool, true, false, cond, not, ◌&&◌, ◌||◌}
use mathlib.Core.List.{List, [], ◌∷◌, ◌++◌, map, append_assoc}
use mathlib.Core.Path.{◌≡◌, refl, sym, ap, ap₂, subst, ◌∙◌, fun_ext}
use native.Mathlib.Omega.{arith}
use lib.Dec.{eqb, leb}
use borrow.Author.Tests.{eq-eqb, ne_eqb}
use Rattle.model.specs.Truth.{𝟘, may, must}
use Rattle.model.specs.Finite.{Ref, null, at, any, given, each, in_each}
use Rattle.model.specs.Store.{Op, stop, go, set_null, set_var, set_new, load, cut, store, is_null, is_same, at_point}
use Rattle.model.specs.Shape.{Shape, holder}
use Rattle.model.specs.Step.{Opened, no_target, whole, divided, settled, possible, divides, targets, opened, unlinked, cleared, linked, moved, now_unshared, still_shared, with_n, from, into, sharing, sure_but, sure_if, from_u, ones, mays, summary_may, at_holder, results, outcomes, folded_result}
use Rattle.shape.specs.Meaning.{trimmed_result}
use Rattle.shape.specs.Slots.{target, open_slot, unlink_slot, link_slot, load_slot, clear_slot, store_slot, places, result_slot, outcome_slot}
use Rattle.shape.proofs.Stages.{end_nil}

-- ---- lists of lists

each_cong : {A : Type 0} (n : ℕ) (f g : ℕ → List A) → ((i : ℕ) → i < n → f i ≡ g i) → each n f ≡ each n g
each_cong zero f g h = refl
each_cong (suc n) f g h = ap₂ ◌++◌ (each_cong n f g (λ i l. h i (omega arith))) (h n (omega arith))

each_front : {A : Type 0} (n : ℕ) (f : ℕ → List A) → each (suc n) f ≡ f 0 ++ each n (λ i. f (suc i))
each_front zero f = sym (end_nil (f 0))
each_front (suc n) f = ap (λ l. l ++ f (suc n)) (each_front n f) ∙ append_assoc (f 0) (each n (λ i. f (suc i))) (f (suc n))

each_pairs : {A : Type 0} (n : ℕ) (f : ℕ → List A) → each (2 * n) f ≡ each n (λ i. f (2 * i) ++ f (suc (2 * i)))
each_pairs zero f = refl
each_pairs (suc n) f =
    let e : 2 * suc n ≡ suc (suc (2 * n)) = omega arith in
    rw e (append_assoc (each (2 * n) f) (f (2 * n)) (f (suc (2 * n))) ∙ ap (λ l. l ++ (f (2 * n) ++ f (suc (2 * n)))) (each_pairs n f))

in_each_append : {A B : Type 0} (f : A → List B) (l m : List A) → in_each f (l ++ m) ≡ in_each f l ++ in_each f m
in_each_append f [] m = refl
in_each_append f (a ∷ l) m = ap (λ k. f a ++ k) (in_each_append f l m) ∙ sym (append_assoc (f a) (in_each f l) (in_each f m))

in_each_each : {A B : Type 0} (f : A → List B) (n : ℕ) (g : ℕ → List A) → each n (λ i. in_each f (g i)) ≡ in_each f (each n g)
in_each_each f zero g = refl
in_each_each f (suc n) g = ap (λ l. l ++ in_each f (g n)) (in_each_each f n g) ∙ sym (in_each_append f (each n g) (g n))

map_append : {A B : Type 0} (f : A → B) (l m : List A) → map f (l ++ m) ≡ map f l ++ map f m
map_append f [] m = refl
map_append f (a ∷ l) m = ap (λ k. f a ∷ k) (map_append f l m)

map_each : {A B : Type 0} (f : A → B) (n : ℕ) (g : ℕ → List A) → each n (λ i. map f (g i)) ≡ map f (each n g)
map_each f zero g = refl
map_each f (suc n) g = ap (λ l. l ++ map f (g n)) (map_each f n g) ∙ sym (map_append f (each n g) (g n))

-- ---- at most one

abbrev pub Small : {A : Type 0} → List A → Type 0
Small [] = Unit
Small (a ∷ []) = Unit
Small (a ∷ b ∷ l) = ⊥

small_given : {A : Type 0} (b : Bool) (a : A) → Small (given b a)
small_given true a = tt
small_given false a = tt

small_cond : {A : Type 0} (b : Bool) (l m : List A) → Small l → Small m → Small (cond b l m)
small_cond true l m p q = p
small_cond false l m p q = q

small_all : {A B : Type 0} (f : A → List B) → ((a : A) → Small (f a)) → (l : List A) → Small l → Small (in_each f l)
small_all f h [] p = tt
small_all f h (a ∷ []) p = subst Small (sym (end_nil (f a))) (h a)
small_all f h (a ∷ b ∷ l) p = absurd p

-- two results of each, where there is at most one
both : {A B : Type 0} (f g h : A → List B) → ((a : A) → f a ++ g a ≡ h a) → (l : List A) → Small l → in_each f l ++ in_each g l ≡ in_each h l
both f g h e [] p = refl
both f g h e (a ∷ []) p = ap₂ ◌++◌ (end_nil (f a)) (end_nil (g a)) ∙ e a ∙ sym (end_nil (h a))
both f g h e (a ∷ b ∷ l) p = absurd p

-- ---- opening

small_settled : (W : Shape) (u t : ℕ) → Small (settled W u t)
small_settled W u t =
    small_cond (W.n.shared t) _ _
    (small_given (any W.size (λ a. not (eqb a u) && may (W.n.link a t))) (record { shape = W; target = at t }))
    (small_given (not (any W.size (λ a. not (eqb a u) && must (W.n.link a t)))) (record { shape = with_n W (into t (sure_but u) W.n); target = at t }))

small_target : (W : Shape) (u v : ℕ) (b : Bool) → Small (target W u v b)
small_target W u v true = small_cond (possible W u v) _ [] (small_cond (divides W u v) _ [] (small_settled (whole (divided W v) u v) u v) tt) tt
small_target W u v false = small_cond (possible W u v) _ [] (small_settled (whole W u v) u v) tt

small_open : (W : Shape) (u j : ℕ) → Small (open_slot W u j)
small_open W u j = small_cond (eqb j 0) _ _ (small_given (not (any W.size (λ b. must (W.n.link u b)))) (record { shape = with_n W (from u (λ b. 𝟘) W.n); target = null })) (small_target W u ((j + 1) / 2 - 1) (eqb (j % 2) 0))

both_targets : (W : Shape) (u v : ℕ) → target W u v false ++ target W u v true ≡ targets W u v
both_targets W u v = go (possible W u v) (settled (whole W u v) u v) (cond (divides W u v) (settled (whole (divided W v) u v) u v) [])
  where
    go : (b : Bool) (l m : List Opened) → cond b l [] ++ cond b m [] ≡ cond b (l ++ m) []
    go true l m = refl
    go false l m = refl

slot_whole : (W : Shape) (u v : ℕ) → open_slot W u (suc (2 * v)) ≡ target W u v false
slot_whole W u v =
    let e : (suc (2 * v) + 1) / 2 - 1 ≡ v = omega arith in
    rw (ne_eqb (suc (2 * v)) 0 (λ e. omega arith), e, ne_eqb (suc (2 * v) % 2) 0 (λ e. omega arith))

slot_divided : (W : Shape) (u v : ℕ) → open_slot W u (suc (suc (2 * v))) ≡ target W u v true
slot_divided W u v =
    let e : (suc (suc (2 * v)) + 1) / 2 - 1 ≡ v = omega arith in
    rw (ne_eqb (suc (suc (2 * v))) 0 (λ e. omega arith), e, eq-eqb (suc (suc (2 * v)) % 2) 0 (omega arith))

-- the results of opening, in order, are those that are given among the places 0 to 2 n
pub opened_slots : (W : Shape) (u : ℕ) → each (suc (2 * W.size)) (open_slot W u) ≡ opened W u
opened_slots W u =
    each_front (2 * W.size) (open_slot W u)
    ∙ ap (λ l. no_target W u ++ l)
    (each_pairs W.size (λ i. open_slot W u (suc i))
    ∙ each_cong W.size (λ v. open_slot W u (suc (2 * v)) ++ open_slot W u (suc (suc (2 * v)))) (targets W u)
    (λ v h. ap₂ ◌++◌ (slot_whole W u v) (slot_divided W u v) ∙ both_targets W u v))

pub load_slots : (W : Shape) (u x : ℕ) → each (suc (2 * W.size)) (load_slot W u x) ≡ map (λ o. moved o.shape x o.target) (opened W u)
load_slots W u x = map_each (λ o. moved o.shape x o.target) (suc (2 * W.size)) (open_slot W u) ∙ ap (map (λ o. moved o.shape x o.target)) (opened_slots W u)

-- ---- two results of each

odd : (i : ℕ) → eqb (suc (2 * i) % 2) 1 ≡ true
odd i = eq-eqb (suc (2 * i) % 2) 1 (omega arith)

even : (i : ℕ) → eqb (2 * i % 2) 1 ≡ false
even i = ne_eqb (2 * i % 2) 1 (λ e. omega arith)

module _ {A B : Type 0} (f : Bool → A → List B) (h : A → List B) (e : (a : A) → f false a ++ f true a ≡ h a) (g : ℕ → List A) (small : (i : ℕ) → Small (g i)) where
  doubled_slots : (n : ℕ) → each (2 * n) (λ j. in_each (f (eqb (j % 2) 1)) (g (j / 2))) ≡ in_each h (each n g)
  doubled_slots n =
      each_pairs n (λ j. in_each (f (eqb (j % 2) 1)) (g (j / 2)))
      ∙ each_cong n (λ i. in_each (f (eqb (2 * i % 2) 1)) (g (2 * i / 2)) ++ in_each (f (eqb (suc (2 * i) % 2) 1)) (g (suc (2 * i) / 2))) (λ i. in_each h (g i))
      (λ i _.
      let p : 2 * i / 2 ≡ i = omega arith in
      let q : suc (2 * i) / 2 ≡ i = omega arith in
      rw (even i, odd i, p, q) (both (f false) (f true) h e (g i) (small i)))
      ∙ in_each_each h n g

both_cuts : (u : ℕ) (o : Opened) → unlink_slot false u o.shape o.target ++ unlink_slot true u o.shape o.target ≡ unlinked u o.shape o.target
both_cuts u o = go o.shape o.target
  where
    pick : (b : Bool) (l m k : List Shape) → cond b l k ++ cond b m [] ≡ cond b (l ++ m) k
    pick true l m k = refl
    pick false l m k = end_nil k

    go : (W : Shape) (r : Ref) → unlink_slot false u W r ++ unlink_slot true u W r ≡ unlinked u W r
    go W null = refl
    go W (at t) = pick (W.n.shared t) _ _ _

small_unlink : (b : Bool) (u : ℕ) (W : Shape) (r : Ref) → Small (unlink_slot b u W r)
small_unlink b u W null = small_given (not b) W
small_unlink true u W (at t) =
    let W₁ : Shape = with_n W (into t (from_u u 𝟘) W.n) in
    small_cond (W.n.shared t) (still_shared W₁ t) [] (small_given (leb 2 (mays W₁ t) || summary_may W₁ t) W₁) tt
small_unlink false u W (at t) =
    let W₁ : Shape = with_n W (into t (from_u u 𝟘) W.n) in
    small_cond (W.n.shared t) (now_unshared W₁ t) (W₁ ∷ [])
    (small_given (leb (ones W₁ t) 1) (with_n W₁ (sharing t false (into t (sure_if (eqb (ones W₁ t) 1)) W₁.n)))) tt

small_clear : (W : Shape) (u j : ℕ) → Small (clear_slot W u j)
small_clear W u j = small_all (λ o. unlink_slot (eqb (j % 2) 1) u o.shape o.target) (λ o. small_unlink (eqb (j % 2) 1) u o.shape o.target) (open_slot W u (j / 2)) (small_open W u (j / 2))

pub cleared_slots : (W : Shape) (u : ℕ) → each (2 * suc (2 * W.size)) (clear_slot W u) ≡ cleared W u
cleared_slots W u =
    doubled_slots (λ b o. unlink_slot b u o.shape o.target) (λ o. unlinked u o.shape o.target) (both_cuts u) (open_slot W u) (small_open W u) (suc (2 * W.size))
    ∙ ap (in_each (λ o. unlinked u o.shape o.target)) (opened_slots W u)

both_ties : (u : ℕ) (r : Ref) (W : Shape) → link_slot false u r W ++ link_slot true u r W ≡ linked u r W
both_ties u null W = refl
both_ties u (at w) W = pick (W.n.shared w) _ _ _
  where
    pick : (b : Bool) (l m k : List Shape) → cond b k l ++ cond b [] m ≡ cond b k (l ++ m)
    pick true l m k = end_nil k
    pick false l m k = refl

pub store_slots : (W : Shape) (u : ℕ) (y : Ref) → each (2 * (2 * suc (2 * W.size))) (store_slot W u y) ≡ in_each (linked u y) (cleared W u)
store_slots W u y =
    doubled_slots (λ b U. link_slot b u y U) (linked u y) (both_ties u y) (clear_slot W u) (small_clear W u) (2 * suc (2 * W.size))
    ∙ ap (in_each (linked u y)) (cleared_slots W u)

-- ---- a statement

each_none : {A : Type 0} (n : ℕ) → each {A = A} n (λ j. []) ≡ []
each_none zero = refl
each_none (suc n) = ap (λ l. l ++ []) (each_none n)

each_holder : (n : ℕ) (r : Ref) (g : ℕ → ℕ → List Shape) → each n (λ j. at_holder r (λ u. g u j)) ≡ at_holder r (λ u. each n (g u))
each_holder n null g = each_none n
each_holder n (at u) g = refl

-- results through a link, each at the point s
at_places : (s n : ℕ) (r : Ref) (g : ℕ → ℕ → List Shape) (f : ℕ → List Shape) → ((u : ℕ) → each n (g u) ≡ f u) → each n (λ j. at_point s (at_holder r (λ u. g u j))) ≡ at_point s (at_holder r f)
at_places s n r g f e =
    map_each (λ (W : Shape). (s, W)) n (λ j. at_holder r (λ u. g u j))
    ∙ ap (at_point s) (each_holder n r g ∙ ap (at_holder r) (fun_ext e))

pub results_placed : (o : Op) (W : Shape) → each (places o W.size) (result_slot o W) ≡ results o W
results_placed stop W = refl
results_placed (go s) W = refl
results_placed (set_null x s) W = refl
results_placed (set_var x y s) W = refl
results_placed (set_new x s) W = refl
results_placed (load x y s) W =
    at_places s (suc (2 * W.size)) (holder W y) (λ u. load_slot W u x) (λ u. map (λ o. moved o.shape x o.target) (opened W u)) (λ u. load_slots W u x)
results_placed (cut x s) W = at_places s (2 * suc (2 * W.size)) (holder W x) (clear_slot W) (cleared W) (cleared_slots W)
results_placed (store x y s) W =
    at_places s (2 * (2 * suc (2 * W.size))) (holder W x) (λ u. store_slot W u (holder W y)) (λ u. in_each (linked u (holder W y)) (cleared W u)) (λ u. store_slots W u (holder W y))
results_placed (is_null x s₁ s₂) W = refl
results_placed (is_same x y s₁ s₂) W = refl

-- the outcomes of a statement, each with nothing beyond its individuals, are those at its places in their order
pub outcomes_placed : (o : Op) (W : Shape) → each (places o W.size) (outcome_slot o W) ≡ map trimmed_result (outcomes o W)
outcomes_placed o W =
    map_each trimmed_result (places o W.size) (λ j. map folded_result (result_slot o W j))
    ∙ ap (map trimmed_result) (map_each folded_result (places o W.size) (result_slot o W) ∙ ap (map folded_result) (results_placed o W))
