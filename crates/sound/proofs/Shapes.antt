-- Every outcome of a shape is again a shape as the file allows it. A result's individuals stand over those of the shape
-- before the step, so that variables are held as before; what moves goes to an individual that is no summary; and folding
-- puts the keys in order.
use Prim.Native.Nat.{ℕ, suc, ◌≤◌, ◌<◌}
use mathlib.Core.Bool.{true, false, cond, not, ◌&&◌, ◌||◌}
use mathlib.Core.List.{List}
use mathlib.Core.Logic.{◌≢◌}
use mathlib.Core.Path.{◌≡◌, refl, sym, ap, ◌∙◌}
use native.Mathlib.Omega.{arith}
use lib.Dec.{eqb, leb}
use borrow.Author.Tests.{eqb-true, eq-eqb, ne_eqb}
use Rattle.model.specs.Truth.{𝟘, 𝟙, may, must}
use Rattle.model.specs.Finite.{Ref, null, at, is, any, bit, put}
use Rattle.model.specs.Store.{Op, stop, go, set_null, set_var, set_new, load, cut, store, is_null, is_same, at_point}
use Rattle.model.specs.Shape.{Links, Shape, holder, Held, Allowed}
use Rattle.model.specs.Step.{from, into, sharing, with_n, from_u, sure_but, sure_if, all_zero, ones, mays, summary_may, Opened, whole, copy, divided, settled, possible, divides, targets, opened, now_unshared, still_shared, unlinked, cleared, links_first, links_second, linked, moved, fresh, at_holder, results, outcomes}
use Rattle.model.proofs.Bools.{clash, by, same_or_not, top_or_below, and_false, and_left}
use Rattle.model.proofs.Search.{Firstly, first_at, firstly}
use Rattle.model.proofs.Lists.{All, none, also, all_append, all_each, all_cond, all_given, all_weak, all_in_each, all_map}
use Rattle.model.proofs.Masks.{no_bit, bit_put, bit_put_other}
use Rattle.model.proofs.Accepted.{Uses}
use Rattle.sound.proofs.Divide.{copy_low, copy_rest}
use Rattle.sound.proofs.Fold.{fold_allowed}

-- ---- individuals over individuals: same mask, a summary only over one, and two over one only at a summary

record Over (R T : Shape) (e : ℕ → ℕ) : Type 0 where
  below : (a : ℕ) → a < R.size → e a < T.size
  mask : (a : ℕ) → a < R.size → R.mask a ≡ T.mask (e a)
  plain : (a : ℕ) → a < R.size → T.summary (e a) ≡ false → R.summary a ≡ false
  sole : (a b : ℕ) → a < R.size → b < R.size → e a ≡ e b → T.summary (e a) ≡ false → a ≡ b

over_held : {vars : ℕ} {R T : Shape} {e : ℕ → ℕ} → Over R T e → Held vars T → Held vars R
over_held {R} {T} {e} o h = record {
  once = λ x a b l k p q.
      let p' = there x a l p in
      o.sole a b l k (h.once x (e a) (e b) (o.below a l) (o.below b k) p' (there x b k q)) (h.plain x (e a) (o.below a l) p');
  plain = λ x a l p. o.plain a l (h.plain x (e a) (o.below a l) (there x a l p));
  known = λ x a l p. h.known x (e a) (o.below a l) (there x a l p);
}
  where
    there : (x a : ℕ) → a < R.size → bit x (R.mask a) ≡ true → bit x (T.mask (e a)) ≡ true
    there x a l p = ap (bit x) (sym (o.mask a l)) ∙ p

whole_over : (W : Shape) (u v : ℕ) → Over (whole W u v) W (λ a. a)
whole_over W u v = record {
  below = λ a l. l;
  mask = λ a l. refl;
  plain = λ a l s. and_false (not (eqb a v)) s;
  sole = λ a b l k q s. q;
}

divided_over : (W : Shape) (v : ℕ) → v < W.size → W.summary v ≡ true → Over (divided W v) W (copy W.size v)
divided_over W v lv sum = record {
  below = λ a l. top_or_below W.size a l (λ q. rw (q, copy_rest W.size v) lv) (λ k. rw (copy_low v k) k);
  mask = λ a l. refl;
  plain = λ a l s. s;
  sole = λ a b l k q s.
      top_or_below W.size a l
      (λ z. clash sum (sym (ap W.summary (ap (copy W.size v) z ∙ copy_rest W.size v)) ∙ s))
      (λ la.
      top_or_below W.size b k
      (λ z. clash sum (sym (ap W.summary (q ∙ ap (copy W.size v) z ∙ copy_rest W.size v)) ∙ s))
      (λ lb. sym (copy_low v la) ∙ q ∙ copy_low v lb));
}

-- ---- opening, clearing and linking hold variables as before

-- a variable may go there: to null, or to an individual that is no summary
data Free (W : Shape) : Ref → Type 0 where
  at_null : Free W null
  at_one : {t : ℕ} → t < W.size → W.summary t ≡ false → Free W (at t)

-- and a result has at most one individual more
pub record Kept (vars size : ℕ) (W : Shape) : Type 0 where
  pub held : Held vars W
  pub small : W.size ≤ suc size

module _ (vars size : ℕ) where
  with_kept : {W : Shape} (L : Links) → Kept vars size W → Kept vars size (with_n W L)
  with_kept L k = record { held = record { once = k.held.once; plain = k.held.plain; known = k.held.known }; small = k.small }

  abbrev Ready : Opened → Type 0
  Ready o = Kept vars size o.shape × Free o.shape o.target

  settled_kept : {W : Shape} (u t : ℕ) → Kept vars size W → t < W.size → W.summary t ≡ false → All Ready (settled W u t)
  settled_kept {W} u t k l s =
      all_cond (W.n.shared t)
      (λ _. all_given Ready (any W.size (λ a. not (eqb a u) && may (W.n.link a t))) _ (λ _. (k, at_one l s)))
      (λ _.
      all_given Ready (not (any W.size (λ a. not (eqb a u) && must (W.n.link a t)))) _ (λ _.
      (with_kept (into t (sure_but u) W.n) k, at_one l s)))

  whole_kept : {W : Shape} (u v : ℕ) → Kept vars size W → v < W.size → All Ready (settled (whole W u v) u v)
  whole_kept {W} u v k l =
      settled_kept u v (record { held = over_held (whole_over W u v) k.held; small = k.small }) l (rw (eq-eqb v v refl))

  unshared_kept : {W : Shape} (t : ℕ) → Kept vars size W → All (Kept vars size) (now_unshared W t)
  unshared_kept {W} t k =
      all_given (Kept vars size) (leb (ones W t) 1) _ (λ _. with_kept (sharing t false (into t (sure_if (eqb (ones W t) 1)) W.n)) k)

  still_kept : {W : Shape} (t : ℕ) → Kept vars size W → All (Kept vars size) (still_shared W t)
  still_kept {W} t k = all_given (Kept vars size) (leb 2 (mays W t) || summary_may W t) W (λ _. k)

  unlinked_kept : {W : Shape} (u : ℕ) (r : Ref) → Kept vars size W → All (Kept vars size) (unlinked u W r)
  unlinked_kept u null k = also k none
  unlinked_kept {W} u (at t) k =
      all_cond (W.n.shared t)
      (λ _. all_append (unshared_kept t cut) (still_kept t cut))
      (λ _. also cut none)
    where
      cut : Kept vars size (with_n W (into t (from_u u 𝟘) W.n))
      cut = with_kept (into t (from_u u 𝟘) W.n) k

  first_kept : {W : Shape} (u w : ℕ) → Kept vars size W → All (Kept vars size) (links_first u w W)
  first_kept {W} u w k =
      all_given (Kept vars size) (not (any W.size (λ a. must (W.n.link a w)))) _ (λ _.
      with_kept (into w (from_u u 𝟙) (into w all_zero W.n)) k)

  second_kept : {W : Shape} (u w : ℕ) → Kept vars size W → All (Kept vars size) (links_second u w W)
  second_kept {W} u w k =
      all_given (Kept vars size) (any W.size (λ a. may (W.n.link a w))) _ (λ _. with_kept (into w (from_u u 𝟙) (sharing w true W.n)) k)

  linked_kept : {W : Shape} (u : ℕ) (r : Ref) → Kept vars size W → All (Kept vars size) (linked u r W)
  linked_kept u null k = also k none
  linked_kept {W} u (at w) k =
      all_cond (W.n.shared w) (λ _. also (with_kept (into w (from_u u 𝟙) W.n) k) none) (λ _. all_append (first_kept u w k) (second_kept u w k))

module _ {vars : ℕ} (W : Shape) (h : Held vars W) where
  itself : Kept vars W.size W
  itself = record { held = h; small = omega arith }

  targets_kept : (u v : ℕ) → v < W.size → All (Ready vars W.size) (targets W u v)
  targets_kept u v l =
      all_cond (possible W u v)
      (λ _.
      all_append
      (whole_kept vars W.size u v itself l)
      (all_cond (divides W u v)
      (λ d.
      whole_kept vars W.size u v
      (record { held = over_held (divided_over W v l (and_left (W.summary v) _ d)) h; small = more })
      (omega arith))
      (λ _. none)))
      (λ _. none)
    where
      more : suc W.size ≤ suc W.size
      more = omega arith

  opened_kept : (u : ℕ) → All (Ready vars W.size) (opened W u)
  opened_kept u =
      all_append
      (all_given (Ready vars W.size) (not (any W.size (λ b. must (W.n.link u b)))) _ (λ _.
      (with_kept vars W.size (from u (λ b. 𝟘) W.n) itself, at_null)))
      (all_each W.size (targets W u) (targets_kept u))

  cleared_kept : (u : ℕ) → All (Kept vars W.size) (cleared W u)
  cleared_kept u = all_in_each _ (all_weak (λ o r. unlinked_kept vars W.size u o.target r.0) (opened_kept u))

  -- ---- the holder of a variable is no summary

  holder_free : (x : ℕ) → Free W (holder W x)
  holder_free x = go (holder W x) (firstly W.size (λ a. bit x (W.mask a)))
    where
      go : (r : Ref) → Firstly W.size (λ a. bit x (W.mask a)) r → Free W r
      go null f = at_null
      go (at a) (first_at l q) = at_one l (h.plain x a l q)

-- ---- a variable moves, an individual is new

is_free : {W : Shape} {r : Ref} (a b : ℕ) → Free W r → is r a ≡ true → is r b ≡ true → (a ≡ b) × (W.summary a ≡ false)
is_free a b at_null p q = clash p refl
is_free {W} a b (at_one {t = t} l s) p q = (eqb-true a t p ∙ sym (eqb-true b t q), ap W.summary (eqb-true a t p) ∙ s)

moved_kept : {vars size : ℕ} {W : Shape} (x : ℕ) (r : Ref) → x < vars → Kept vars size W → Free W r → Kept vars size (moved W x r)
moved_kept {vars} {size} {W} x r lx k f = record {
  held = record {
    once = λ y a b l m p q.
        same_or_not y x
        (λ z. (is_free a b f (moving y a z p) (moving y b z q)).0)
        (λ z. k.held.once y a b l m (staying y a z p) (staying y b z q));
    plain = λ y a l p.
        same_or_not y x
        (λ z. (is_free a a f (moving y a z p) (moving y a z p)).1)
        (λ z. k.held.plain y a l (staying y a z p));
    known = λ y a l p. same_or_not y x (λ z. rw z lx) (λ z. k.held.known y a l (staying y a z p));
  };
  small = k.small;
}
  where
    moving : (y a : ℕ) → y ≡ x → bit y (put x (is r a) (W.mask a)) ≡ true → is r a ≡ true
    moving y a z p = sym (bit_put x (is r a) (W.mask a)) ∙ (rw z at p)

    staying : (y a : ℕ) → y ≢ x → bit y (put x (is r a) (W.mask a)) ≡ true → bit y (W.mask a) ≡ true
    staying y a z p = sym (bit_put_other y x (is r a) (W.mask a) z) ∙ p

fresh_kept : {vars : ℕ} (W : Shape) (x : ℕ) → x < vars → Held vars W → Kept vars W.size (fresh W x)
fresh_kept {vars} W x lx h = record {
  held = record {
    once = λ y a b l m p q.
        same_or_not y x
        (λ z. new_only y a l z p ∙ sym (new_only y b m z q))
        (λ z. let r = old_only y a l z p in let s = old_only y b m z q in h.once y a b r.0 s.0 r.1 s.1);
    plain = λ y a l p.
        same_or_not y x
        (λ z. rw (eq-eqb a W.size (new_only y a l z p)))
        (λ z. let r = old_only y a l z p in and_false (not (eqb a W.size)) (h.plain y a r.0 r.1));
    known = λ y a l p. same_or_not y x (λ z. rw z lx) (λ z. let r = old_only y a l z p in h.known y a r.0 r.1);
  };
  small = let z : suc W.size ≤ suc W.size = omega arith in z;
}
  where
    mask : ℕ → ℕ
    mask a = cond (eqb a W.size) (put x true 0) (put x false (W.mask a))

    -- x is on the new one alone
    new_only : (y a : ℕ) → a < suc W.size → y ≡ x → bit y (mask a) ≡ true → a ≡ W.size
    new_only y a l z p =
        by (eqb a W.size) (λ q. eqb-true a W.size q) (λ q. clash (rw (z, q) at p) (bit_put x false (W.mask a)))

    -- any other variable is where it was
    old_only : (y a : ℕ) → a < suc W.size → y ≢ x → bit y (mask a) ≡ true → (a < W.size) × (bit y (W.mask a) ≡ true)
    old_only y a l z p =
        top_or_below W.size a l
        (λ q. no_bit y (sym (bit_put_other y x true 0 z) ∙ (rw (eq-eqb a W.size q) at p)))
        (λ k. (k, sym (bit_put_other y x false (W.mask a) z) ∙ (rw (ne_eqb a W.size (λ w. omega arith)) at p)))

-- ---- every op

at_kept : {vars size : ℕ} (r : Ref) (f : ℕ → List Shape) → ((u : ℕ) → All (Kept vars size) (f u)) → All (Kept vars size) (at_holder r f)
at_kept null f h = none
at_kept (at u) f h = h u

module _ (vars : ℕ) (W : Shape) (h : Held vars W) where
  abbrev Good : ℕ × Shape → Type 0
  Good r = Kept vars W.size r.1

  there : (s : ℕ) {l : List Shape} → All (Kept vars W.size) l → All Good (at_point s l)
  there s t = all_map _ _ t

  pub results_kept : (o : Op) → Uses vars o → All Good (results o W)
  results_kept stop u = none
  results_kept (go s) u = also (itself W h) none
  results_kept (set_null x s) u = also (moved_kept x null u (itself W h) at_null) none
  results_kept (set_var x y s) u = also (moved_kept x (holder W y) u.0 (itself W h) (holder_free W h y)) none
  results_kept (set_new x s) u = also (fresh_kept W x u h) none
  results_kept (load x y s) u =
      there s (at_kept (holder W y) _ (λ c. all_map _ _ (all_weak (λ o r. moved_kept x o.target u.0 r.0 r.1) (opened_kept W h c))))
  results_kept (cut x s) u = there s (at_kept (holder W x) _ (cleared_kept W h))
  results_kept (store x y s) u =
      there s (at_kept (holder W x) _ (λ c. all_in_each _ (all_weak (λ R k. linked_kept vars W.size c (holder W y) k) (cleared_kept W h c))))
  results_kept (is_null x s₁ s₂) u = also (itself W h) none
  results_kept (is_same x y s₁ s₂) u = also (itself W h) none

  -- so that every outcome is again a shape
  pub outcomes_allowed : (o : Op) → Uses vars o → All (λ r. Allowed vars r.1) (outcomes o W)
  outcomes_allowed o u = all_map _ _ (all_weak (λ r k. fold_allowed r.1 vars k.held) (results_kept o u))

-- "A working shape has at most 11 individuals": one more than the shape had
pub results_small : (vars : ℕ) (W : Shape) → Held vars W → (o : Op) → Uses vars o → All (λ r. r.1.size ≤ suc W.size) (results o W)
results_small vars W h o u = all_weak (λ r k. k.small) (results_kept vars W h o u)
