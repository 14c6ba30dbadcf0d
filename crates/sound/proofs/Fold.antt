-- Folding: a working shape embeds in its fold, whose link values are the joins of what went in, whose keys ascend, and which
-- is the least shape of different keys that the working shape embeds in.
use Prim.Native.Nat.{ℕ, zero, suc, ◌<◌}
use mathlib.Core.Bool.{true, false, cond, not, ◌&&◌, ◌||◌}
use mathlib.Core.List.{List}
use mathlib.Core.Logic.{inl, inr}
use mathlib.Core.Path.{◌≡◌, sym, ap, ap₂, subst, ◌∙◌}
use native.Mathlib.Omega.{arith}
use lib.Dec.{eqb}
use lib.ListN.{length, get_or}
use borrow.Author.Tests.{eqb-false, ne_eqb}
use Rattle.model.specs.Truth.{Truth, join}
use Rattle.model.specs.Finite.{sweep, bit}
use Rattle.model.specs.Shape.{Links, Shape, same_key, key_before, Held, Allowed}
use Rattle.model.specs.Fold.{firsts, joined, went_in, many, folded_links, fold}
use Rattle.model.proofs.Bools.{clash, by, top_or_below, same_or_not, and_left, and_right, and_both, or_cases, or_left, or_right, not_true, not_false}
use Rattle.model.proofs.Search.{any_none, any_elim, any_intro, none_any}
use Rattle.sound.specs.Order.{◌⊑◌}
use Rattle.sound.proofs.Order.{⊑_refl, ⊑_of, ⊑_trans, join_left, join_right, join_least}
use Rattle.sound.specs.Embed.{Carried, Embeds}
use Rattle.sound.proofs.Keys.{same_mask, same_shared, to_same, Keyed}
use Rattle.sound.proofs.Firsts.{all_at, ascending_at, firsts_ascending, firsts_low, firsts_all, place, place_low, place_same, place_at, place_cong}

-- ---- a sweep of changes that only go up

pub sweep_grows : (n : ℕ) (f : ℕ → Truth → Truth) → ((i : ℕ) (v : Truth) → v ⊑ f i v) → (v : Truth) → v ⊑ sweep n f v
sweep_grows zero f h v = ⊑_refl
sweep_grows (suc n) f h v = ⊑_trans (sweep_grows n f h v) (h n (sweep n f v))

pub sweep_hits : (n : ℕ) (f : ℕ → Truth → Truth) → ((i : ℕ) (v : Truth) → v ⊑ f i v) → (i : ℕ) → i < n → (x : Truth) → ((v : Truth) → x ⊑ f i v) → (v : Truth) → x ⊑ sweep n f v
sweep_hits zero f h i l x k v = absurd (omega arith)
sweep_hits (suc n) f h i l x k v =
    top_or_below n i l
    (λ q. subst (λ (c : ℕ). x ⊑ f c (sweep n f v)) q (k (sweep n f v)))
    (λ j. ⊑_trans (sweep_hits n f h i j x k v) (h n (sweep n f v)))

pub sweep_least : (n : ℕ) (f : ℕ → Truth → Truth) (x : Truth) → ((i : ℕ) (v : Truth) → i < n → v ⊑ x → f i v ⊑ x) → (v : Truth) → v ⊑ x → sweep n f v ⊑ x
sweep_least zero f x h v p = p
sweep_least (suc n) f x h v p = h n (sweep n f v) (omega arith) (sweep_least n f x (λ i w l q. h i w (omega arith) q) v p)

-- ---- the join over all pairs of two keys

module _ (W : Shape) (f : ℕ → ℕ → Truth) (r s : ℕ) where
  -- one pair is joined in, if it has the two keys
  pair : ℕ → ℕ → Truth → Truth
  pair a b w = cond (same_key W a r && same_key W b s) (join w (f a b)) w

  pair_grows : (a b : ℕ) (w : Truth) → w ⊑ pair a b w
  unfolding pair
  pair_grows a b w = by (same_key W a r && same_key W b s) (λ q. rw q (record { lies = join_left w (f a b) })) (λ q. rw q ⊑_refl)

  pair_hits : (a b : ℕ) → same_key W a r ≡ true → same_key W b s ≡ true → (w : Truth) → f a b ⊑ pair a b w
  unfolding pair
  pair_hits a b p q w = rw (and_both p q) (record { lies = join_right w (f a b) })

  -- it lies above all that went in
  pub joined_above : (a b : ℕ) → a < W.size → b < W.size → same_key W a r ≡ true → same_key W b s ≡ true → f a b ⊑ joined W f r s
  unfolding pair
  joined_above a b h k p q =
      sweep_hits W.size (λ a v. sweep W.size (pair a) v)
      (λ i v. sweep_grows W.size (pair i) (pair_grows i) v)
      a
      h
      (f a b)
      (λ v. sweep_hits W.size (pair a) (pair_grows a) b k (f a b) (pair_hits a b p q) v)
      (f r s)

  -- and under whatever lies above all that went in
  pub joined_least : (x : Truth) → f r s ⊑ x → ((a b : ℕ) → a < W.size → b < W.size → same_key W a r ≡ true → same_key W b s ≡ true → f a b ⊑ x) → joined W f r s ⊑ x
  unfolding pair
  joined_least x p g =
      sweep_least W.size (λ a v. sweep W.size (pair a) v) x
      (λ a v h q.
      sweep_least W.size (pair a) x
      (λ b w k y.
      by (same_key W a r && same_key W b s)
      (λ z.
      rw z (record {
        lies = join_least w (f a b) x y.lies (g a b h k (and_left (same_key W a r) (same_key W b s) z) (and_right (same_key W a r) (same_key W b s) z)).lies;
      }))
      (λ z. rw z y))
      v
      q)
      (f r s)
      p

-- ---- a shape embeds in its fold

module _ (W : Shape) where
  abbrev pub first_of : List ℕ
  first_of = firsts W W.size

  -- where a goes, and the first of those that went to i
  abbrev pub class : ℕ → ℕ
  class a = place W a first_of

  abbrev pub rep : ℕ → ℕ
  rep i = get_or first_of i 0

  pub class_low : (a : ℕ) → a < W.size → class a < length first_of
  class_low a h = place_low W a first_of (firsts_all W W.size a h)

  pub class_same : (a : ℕ) → a < W.size → same_key W a (rep (class a)) ≡ true
  class_same a h = place_same W a first_of (firsts_all W W.size a h)

  pub rep_low : (i : ℕ) → i < length first_of → rep i < W.size
  rep_low i h = all_at (firsts_low W W.size) i h

  pub rep_class : (i : ℕ) → i < length first_of → class (rep i) ≡ i
  rep_class i h = place_at W (firsts_ascending W W.size) i h

  -- a key with no summary and no second individual has just its first
  many_not : (a r : ℕ) → many W r ≡ false → a < W.size → same_key W a r ≡ true → a ≡ r
  many_not a r e h s =
      same_or_not a r (λ q. q) (λ d.
      clash (and_both s (or_right (W.summary a) (not_false (ne_eqb a r d)))) (any_none W.size (went_in W r) e a h))

  fold_carried : (L : Links) → ((a b : ℕ) → same_key W a b ≡ true → L.shared a ≡ L.shared b) → Carried W.size class L (folded_links W first_of L)
  fold_carried L f = record {
    shared = λ a h. f a (rep (class a)) (class_same a h);
    link = λ a b h k. joined_above W L.link (rep (class a)) (rep (class b)) a b h k (class_same a h) (class_same b k);
  }

  pub fold_embeds : Embeds W (fold W) class
  fold_embeds = record {
    below = class_low;
    onto = λ i h. (rep i, rep_low i h, rep_class i h);
    sole = λ a b h k z y.
        many_not a (rep (class a)) y h (class_same a h)
        ∙ sym (many_not b (rep (class a)) y k (subst (λ (i : ℕ). same_key W b (rep i) ≡ true) (sym z) (class_same b k)));
    mask = λ a h. same_mask W a (rep (class a)) (class_same a h);
    summary = λ a h y.
        any_intro W.size (went_in W (rep (class a))) a h
        (and_both (class_same a h) (or_left (not (eqb a (rep (class a)))) y));
    n = fold_carried W.n (same_shared W);
  }

  -- ---- its keys ascend, so they differ

  pub fold_ascends : (i j : ℕ) → i < j → j < (fold W).size → key_before (fold W) i j ≡ true
  fold_ascends i j h k = ascending_at W (firsts_ascending W W.size) i j h k

  pub fold_keyed : Keyed (fold W)
  fold_keyed i j h k p q =
      sym (rep_class i h) ∙ place_cong W (rep i) (rep j) (to_same W (rep i) (rep j) p q) first_of ∙ rep_class j k

  -- ---- and it is a shape as the file allows it, if the working shape holds variables as a shape does

  pub fold_allowed : (vars : ℕ) → Held vars W → Allowed vars (fold W)
  fold_allowed vars h = record {
    ascend = fold_ascends;
    held = record {
      once = λ x i j k l p q. sym (rep_class i k) ∙ ap class (h.once x (rep i) (rep j) (rep_low i k) (rep_low j l) p q) ∙ rep_class j l;
      plain = λ x i k p. none_any W.size (went_in W (rep i)) (alone x i k p);
      known = λ x i k p. h.known x (rep i) (rep_low i k) p;
    };
  }
    where
      -- who has the key of an individual with a variable has that variable, and so is that individual, which is no summary
      alone : (x i : ℕ) → i < length first_of → bit x (W.mask (rep i)) ≡ true → (a : ℕ) → a < W.size → went_in W (rep i) a ≡ true → ⊥
      alone x i k p a l y =
          let s : same_key W a (rep i) ≡ true = and_left (same_key W a (rep i)) (W.summary a || not (eqb a (rep i))) y in
          let b : bit x (W.mask a) ≡ true = ap (bit x) (same_mask W a (rep i) s) ∙ p in
          elim (or_cases (W.summary a) (not (eqb a (rep i))) (and_right (same_key W a (rep i)) (W.summary a || not (eqb a (rep i))) y)) [
            | inl q ↦ clash q (h.plain x a l b)
            | inr q ↦ eqb-false a (rep i) (not_true q) (h.once x a (rep i) l (rep_low i k) b p)
          ]

-- ---- what embeds in a shape of different keys embeds there when it is folded

module _ {R T : Shape} {e : ℕ → ℕ} (m : Embeds R T e) (keyed : Keyed T) where
  one_place : (a b : ℕ) → a < R.size → b < R.size → same_key R a b ≡ true → e a ≡ e b
  one_place a b h k s =
      keyed (e a) (e b) (m.below a h) (m.below b k)
      (sym (m.mask a h) ∙ same_mask R a b s ∙ m.mask b k)
      (sym (m.n.shared a h) ∙ same_shared R a b s ∙ m.n.shared b k)

  least_carried : {L M : Links} → Carried R.size e L M → Carried (length (first_of R)) (λ i. e (rep R i)) (folded_links R (first_of R) L) M
  least_carried {L} {M} s = record {
    shared = λ i h. s.shared (rep R i) (rep_low R i h);
    link = λ i j h k.
        joined_least R L.link (rep R i) (rep R j) (M.link (e (rep R i)) (e (rep R j)))
        (s.link (rep R i) (rep R j) (rep_low R i h) (rep_low R j k))
        (λ a b h' k' p q.
        ⊑_trans (s.link a b h' k')
        (⊑_of (ap₂ M.link (one_place a (rep R i) h' (rep_low R i h) p) (one_place b (rep R j) k' (rep_low R j k) q))));
  }

  pub fold_least : Embeds (fold R) T (λ i. e (rep R i))
  fold_least = record {
    below = λ i h. m.below (rep R i) (rep_low R i h);
    onto = λ i h.
        let r = m.onto i h in
        let c = class R r.0 in
        let l = class_low R r.0 r.1 in
        (c, l, sym (one_place r.0 (rep R c) r.1 (rep_low R c l) (class_same R r.0 r.1)) ∙ r.2);
    sole = λ i j h k z y.
        sym (rep_class R i h) ∙ ap (class R) (m.sole (rep R i) (rep R j) (rep_low R i h) (rep_low R j k) z y) ∙ rep_class R j k;
    mask = λ i h. m.mask (rep R i) (rep_low R i h);
    summary = λ i h y.
        let r = any_elim R.size (went_in R (rep R i)) y in
        let s : same_key R r.0 (rep R i) ≡ true = and_left (same_key R r.0 (rep R i)) (R.summary r.0 || not (eqb r.0 (rep R i))) r.2 in
        let z : e r.0 ≡ e (rep R i) = one_place r.0 (rep R i) r.1 (rep_low R i h) s in
        elim (or_cases (R.summary r.0) (not (eqb r.0 (rep R i))) (and_right (same_key R r.0 (rep R i)) (R.summary r.0 || not (eqb r.0 (rep R i))) r.2)) [
          | inl q ↦ ap T.summary (sym z) ∙ m.summary r.0 r.1 q
          | inr q ↦ by (T.summary (e (rep R i))) (λ x. x) (λ x.
              absurd (eqb-false r.0 (rep R i) (not_true q) (m.sole r.0 (rep R i) r.1 (rep_low R i h) z (ap T.summary z ∙ x))))
        ];
    n = least_carried m.n;
  }
