-- Every op: each next store of a store embeds in some result of the store's exact shape, with the same successor.
use Prim.Native.Nat.{ℕ, suc, ◌<◌}
use mathlib.Core.Bool.{true, false, cond, not}
use mathlib.Core.List.{List, map}
use mathlib.Core.Path.{◌≡◌, refl, sym, ap, subst, ◌∙◌, fun_ext}
use native.Mathlib.Omega.{arith}
use lib.Dec.{eqb, leb}
use borrow.Author.Tests.{eqb-true, eq-eqb, ne_eqb}
use Rattle.model.specs.Truth.{𝟙, 𝟘}
use Rattle.model.specs.Finite.{Ref, null, at, is, count, in_each, put, Some, here}
use Rattle.model.specs.Store.{Store, Proper, shared_by, Op, stop, go, set_null, set_var, set_new, load, cut, store, is_null, is_same, change, with_var, with_link, with_new, through, loads, cuts, stores, at_point, next_stores}
use Rattle.model.specs.Shape.{Shape, own_mask}
use Rattle.model.specs.Step.{opened, cleared, linked, moved, grown, fresh, loaded, cut_off, stored, at_holder, results}
use Rattle.model.proofs.Bools.{clash, by, top_or_below, and_false, false_of}
use Rattle.model.proofs.Search.{count_cong}
use Rattle.model.proofs.Lists.{All, none, also, all_weak, all_map, some_weak, some_in_each, some_map, met_some}
use Rattle.model.proofs.Accepted.{Uses}
use Rattle.sound.proofs.Order.{⊑_refl, ⊑_of}
use Rattle.sound.specs.Embed.{Carried, In}
use Rattle.sound.proofs.Embed.{embeds_trans, carried_same, Aim}
use Rattle.sound.proofs.Clear.{linked_met}
use Rattle.sound.proofs.Respects.{moved_embeds}
use Rattle.sound.proofs.OwnMask.{own_put, own_none}
use Rattle.sound.specs.Exact.{seen, exact}
use Rattle.sound.proofs.Exact.{is_true, shared_other, Near, near, near_self, near_next, near_aim, holder_exact}
use Rattle.sound.proofs.ExactOpen.{exact_opened}
use Rattle.sound.proofs.ExactClear.{exact_cleared}
use Rattle.sound.proofs.ExactLink.{exact_linked}

-- ---- a new cell, for one link

-- the links f of `size` cells stay among them
module _ (size : ℕ) (f : ℕ → Ref) (inside : (a c : ℕ) → a < size → f a ≡ at c → c < size) where
  no_link : (a : ℕ) → a < size → is (f a) size ≡ false
  no_link a h = false_of (λ y. let l = inside a size h (is_true (f a) size y) in omega arith)

  abbrev f₁ : ℕ → Ref
  f₁ = change size null f

  -- the new cell links to none, and none links to it
  count_old : (a : ℕ) → count (suc size) (λ b. is (f₁ b) a) ≡ count size (λ b. is (f b) a)
  count_old a =
      let old : count size (λ b. is (f₁ b) a) ≡ count size (λ b. is (f b) a) = count_cong size _ _ (λ b h. rw (ne_eqb b size (λ z. omega arith))) in
      let new : ◌≡◌ {A = ℕ} (cond (is (f₁ size) a) 1 0) 0 = rw (eq-eqb size size refl) in
      omega arith

  shared_new : shared_by size f size ≡ false
  shared_new = false_of (λ t. let r = shared_other size f size 0 t in clash r.3 (no_link r.0 r.1))

  new_carried : Carried (suc size) (λ a. a) (seen (suc size) f₁) (grown size (seen size f))
  new_carried = record {
    shared = λ a h.
        ap (leb 2) (count_old a) ∙ by (eqb a size) (λ q. rw q (ap (shared_by size f) (eqb-true a size q) ∙ shared_new)) (λ q. rw q);
    link = λ a b h j.
        top_or_below size a h
        (λ q. rw (eq-eqb a size q) ⊑_refl)
        (λ l.
        rw (ne_eqb a size (λ z. omega arith))
        (by (eqb b size)
        (λ y. rw y (⊑_of (ap (λ x. cond x 𝟙 𝟘) (ap (is (f a)) (eqb-true b size y) ∙ no_link a l))))
        (λ y. rw y ⊑_refl)));
  }

module _ (vars : ℕ) where
  -- ---- a variable moves, a cell is new

  moved_near : (σ : Store) (x : ℕ) (r : Ref) → x < vars → Near vars (with_var x r σ) (moved (exact vars σ) x r)
  moved_near σ x r l = near vars (with_var x r σ) _ refl (λ a h. own_put a vars σ.var x r l) (λ a. refl) carried_same

  near_in : {σ : Store} {W : Shape} → Near vars σ W → In (exact vars σ) W
  near_in w = (w.map, w.embeds)

  module _ (σ : Store) (ok : Proper vars σ) where
    abbrev W : Shape
    W = exact vars σ

    -- τ embeds in one of these
    abbrev Found : List Shape → Store → Type 0
    Found l τ = Some (In (exact vars τ)) l

    fresh_near : (x : ℕ) → x < vars → Near vars (with_new x σ) (fresh W x)
    fresh_near x l =
        near vars _ _ refl
        (λ a h.
        own_put a vars σ.var x (at σ.size) l
        ∙ by (eqb a σ.size)
        (λ q. rw q (ap (put x true) (ap (own_mask vars σ.var) (eqb-true a σ.size q) ∙ own_none σ.size vars σ.var not_there)))
        (λ q. rw q))
        (λ a. and_false (not (eqb a σ.size)) refl)
        (new_carried σ.size σ.n ok.n)
      where
        not_there : (x : ℕ) → x < vars → is (σ.var x) σ.size ≡ false
        not_there x h = false_of (λ y. let l = ok.var x σ.size h (is_true (σ.var x) σ.size y) in omega arith)

    -- ---- the ops through n, at what the variable is on

    load_at : (x y : ℕ) → x < vars → y < vars → (r : Ref) → σ.var y ≡ r → All (Found (at_holder r (λ u. map (λ o. moved o.shape x o.target) (opened W u)))) (through r (λ c. with_var x (σ.n c) σ))
    load_at x y l k null e = none
    load_at x y l k (at c) e =
        also
        (some_map _ _
        (some_weak
        (λ o z. (
          _,
          embeds_trans (moved_near σ x (σ.n c) l).embeds
              (moved_embeds x z.0.embeds
              (subst (λ (r : Ref). Aim W o.shape z.0.map (σ.n c) r) (sym z.1) (near_aim vars z.0 (σ.n c) (λ d. ok.n c d lc)))),
        ))
        (exact_opened vars σ ok c lc)))
        none
      where
        lc : c < σ.size
        lc = ok.var y c k e

    cut_at : (x : ℕ) → x < vars → (r : Ref) → σ.var x ≡ r → All (Found (at_holder r (cleared W))) (through r (λ c. with_link c null σ))
    cut_at x l null e = none
    cut_at x l (at c) e = also (some_weak (λ U w. near_in w) (exact_cleared vars σ c ok (ok.var x c l e))) none

    -- the link is cut, then set: the same as set at once
    store_at : (x y : ℕ) → x < vars → y < vars → (r : Ref) → σ.var x ≡ r → All (Found (at_holder r (λ u. in_each (linked u (σ.var y)) (cleared W u)))) (through r (λ c. with_link c (σ.var y) σ))
    store_at x y l k null e = none
    store_at x y l k (at c) e =
        also
        (some_weak (λ U w. subst (λ (f : ℕ → Ref). In (exact vars (record { size = σ.size; var = σ.var; n = f })) U) at_once (near_in w))
        (some_in_each _
        (some_weak
        (λ U w.
        met_some
        (linked_met w.embeds (λ a i p. p) (w.pins c lc) (near_aim vars w (σ.var y) (λ d. ok.var y d k)))
        (λ R T m p. near_next vars w m (λ a h. h) p)
        (exact_linked vars (with_link c null σ) c lc (rw (eq-eqb c c refl)) (σ.var y)))
        (exact_cleared vars σ c ok lc))))
        none
      where
        lc : c < σ.size
        lc = ok.var x c l e

        at_once : change c (σ.var y) (change c null σ.n) ≡ change c (σ.var y) σ.n
        at_once = fun_ext (λ b. by (eqb b c) (λ q. rw q) (λ q. rw q))

    loads_found : (x y : ℕ) → x < vars → y < vars → All (Found (loaded x y W)) (loads x y σ)
    loads_found x y l k = rw (holder_exact vars σ ok y k) (load_at x y l k (σ.var y) refl)

    cuts_found : (x : ℕ) → x < vars → All (Found (cut_off x W)) (cuts x σ)
    cuts_found x l = rw (holder_exact vars σ ok x l) (cut_at x l (σ.var x) refl)

    stores_found : (x y : ℕ) → x < vars → y < vars → All (Found (stored x y W)) (stores x y σ)
    stores_found x y l k = rw (holder_exact vars σ ok x l, holder_exact vars σ ok y k) (store_at x y l k (σ.var x) refl)

  -- ---- every op

  -- a next store and a result with one successor, the store's exact shape embedded in the result
  abbrev pub Lies : ℕ × Store → ℕ × Shape → Type 0
  Lies r t = (r.0 ≡ t.0) × In (exact vars r.1) t.1

  at_one_point : (s : ℕ) {l : List Store} {m : List Shape} → All (λ τ. Some (In (exact vars τ)) m) l → All (λ r. Some (Lies r) (at_point s m)) (at_point s l)
  at_one_point s t = all_map _ _ (all_weak (λ τ q. some_map _ _ (some_weak (λ U p. (refl, p)) q)) t)

  pub exact_steps : (σ : Store) → Proper vars σ → (o : Op) → Uses vars o → All (λ r. Some (Lies r) (results o (exact vars σ))) (next_stores o σ)
  exact_steps σ ok stop u = none
  exact_steps σ ok (go s) u = also (here (refl, near_in (near_self vars σ))) none
  exact_steps σ ok (set_null x s) u = also (here (refl, near_in (moved_near σ x null u))) none
  exact_steps σ ok (set_var x y s) u =
      rw (holder_exact vars σ ok y u.1) (also (here (refl, near_in (moved_near σ x (σ.var y) u.0))) none)
  exact_steps σ ok (set_new x s) u = also (here (refl, near_in (fresh_near σ ok x u))) none
  exact_steps σ ok (load x y s) u = at_one_point s (loads_found σ ok x y u.0 u.1)
  exact_steps σ ok (cut x s) u = at_one_point s (cuts_found σ ok x u)
  exact_steps σ ok (store x y s) u = at_one_point s (stores_found σ ok x y u.0 u.1)
  exact_steps σ ok (is_null x s₁ s₂) u =
      rw (holder_exact vars σ ok x u) (also (here (refl, near_in (near_self vars σ))) none)
  exact_steps σ ok (is_same x y s₁ s₂) u =
      rw (holder_exact vars σ ok x u.0, holder_exact vars σ ok y u.1) (also (here (refl, near_in (near_self vars σ))) none)
