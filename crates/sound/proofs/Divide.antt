-- A target is whole or divided: where it alone goes to its place, the whole shapes embed; where others go there too, the
-- place is a summary, and they embed in the rest.
use Prim.Native.Nat.{ℕ, suc, ◌<◌}
use mathlib.Core.Bool.{true, cond, not, ◌&&◌}
use mathlib.Core.Logic.{◌≢◌}
use mathlib.Core.Path.{◌≡◌, refl, sym, ap, ◌∙◌}
use native.Mathlib.Omega.{arith}
use lib.Dec.{eqb}
use borrow.Author.Tests.{eqb-true, eqb-false, eq-eqb, ne_eqb}
use Rattle.model.specs.Truth.{𝟘, 𝟙}
use Rattle.model.specs.Shape.{Shape}
use Rattle.model.specs.Step.{whole, copy, divided}
use Rattle.model.proofs.Bools.{clash, by, same_or_not, top_or_below, and_map, and_false, and_left}
use Rattle.sound.proofs.Order.{⊑_refl, cond_⊑}
use Rattle.sound.specs.Embed.{Embeds}
use Rattle.sound.proofs.Embed.{Pin, pin, Only, only_eqb}
use Rattle.sound.proofs.Links.{from_carried, copied_carried}

-- ---- whole

module _ {R T : Shape} {e : ℕ → ℕ} {u j v i : ℕ} (m : Embeds R T e) (p : Pin R T e u j) (o : Only R.size e v i) where
  pub whole_embeds : Embeds (whole R u v) (whole T j i) e
  whole_embeds = record {
    below = m.below;
    onto = m.onto;
    sole = λ a b h k z y.
        by (eqb (e a) i)
        (λ x. let q = eqb-true (e a) i x in o.only a h q ∙ sym (o.only b k (sym z ∙ q)))
        (λ x. m.sole a b h k z (rw x at y));
    mask = m.mask;
    summary = λ a h y. rw (only_eqb o a h) (and_map (not (eqb a v)) (m.summary a h) y);
    n = from_carried (pin m p) m.n (λ b. cond (eqb b v) 𝟙 𝟘) (λ b. cond (eqb b i) 𝟙 𝟘) (λ b h. cond_⊑ (sym (only_eqb o b h)) (λ _. ⊑_refl) (λ _. ⊑_refl));
  }

  pub whole_pin : {a k : ℕ} → Pin R T e a k → Pin (whole R u v) (whole T j i) e a k
  whole_pin {k} q = record { low = q.low; to = q.to; one = and_false (not (eqb k i)) q.one }

  -- the target itself is pinned now
  pub target_pin : Pin (whole R u v) (whole T j i) e v i
  target_pin = record { low = o.low; to = o.to; one = rw (eq-eqb i i refl) }

-- ---- divided: v and w, not the same, both go to i

module _ {R T : Shape} {e : ℕ → ℕ} {v w i : ℕ} (m : Embeds R T e) (to : e v ≡ i) (lv : v < R.size) (lw : w < R.size) (apart : w ≢ v) (more : e w ≡ i) where
  -- those of i other than v go to the rest
  abbrev pub apart_map : ℕ → ℕ
  apart_map a = cond (eqb (e a) i && not (eqb a v)) T.size (e a)

  low_i : i < T.size
  low_i = rw (← to) (m.below v lv)

  back : (a : ℕ) → a < R.size → copy T.size i (apart_map a) ≡ e a
  back a h =
      by (eqb (e a) i && not (eqb a v))
      (λ y. rw (y, eq-eqb T.size T.size refl) (sym (eqb-true (e a) i (and_left (eqb (e a) i) (not (eqb a v)) y))))
      (λ y. rw (y, ne_eqb (e a) T.size (let l = m.below a h in λ z. omega arith)))

  -- the rest isn't empty, for w is there
  onto_apart : (k : ℕ) → k < suc T.size → (x : ℕ) × (x < R.size) × (apart_map x ≡ k)
  onto_apart k h =
      top_or_below T.size k h
      (λ y. (w, lw, rw (ne_eqb w v apart, eq-eqb (e w) i more) (sym y)))
      (λ l.
      same_or_not k i
      (λ z. (v, lv, rw (eq-eqb (e v) i to, eq-eqb v v refl) (to ∙ sym z)))
      (λ z. let r = m.onto k l in (r.0, r.1, rw (ne_eqb (e r.0) i (λ x. z (sym r.2 ∙ x))) r.2)))

  pub divided_embeds : Embeds R (divided T i) apart_map
  divided_embeds = record {
    below = λ a h.
        let l = m.below a h in
        by (eqb (e a) i && not (eqb a v)) (λ y. rw y (omega arith)) (λ y. rw y (omega arith));
    onto = onto_apart;
    sole = λ a b h k z y.
        m.sole a b h k (sym (back a h) ∙ ap (copy T.size i) z ∙ back b k) (sym (ap T.summary (back a h)) ∙ y);
    mask = λ a h. m.mask a h ∙ ap T.mask (sym (back a h));
    summary = λ a h y. ap T.summary (back a h) ∙ m.summary a h y;
    n = copied_carried (copy T.size i) apart_map back m.n;
  }

  pub divided_only : Only R.size apart_map v i
  divided_only = record {
    low = lv;
    to = rw (eq-eqb (e v) i to, eq-eqb v v refl) to;
    only = λ b h z.
        by (eqb b v) (λ x. eqb-true b v x) (λ x.
        by (eqb (e b) i)
        (λ y. absurd (let q : T.size ≡ i = rw (y, x) at z in let l = low_i in omega arith))
        (λ y. absurd (eqb-false (e b) i y (rw y at z))));
  }

  pub divided_keep : (a k : ℕ) → Pin R T e a k → Pin R (divided T i) apart_map a k
  divided_keep a k p = record {
    low = p.low;
    to =
        by (eqb (e a) i)
        (λ y. rw (y, eq-eqb a v (m.sole a v p.low lv (eqb-true (e a) i y ∙ sym to) (ap T.summary p.to ∙ p.one))) p.to)
        (λ y. rw y p.to);
    one =
        let l : k < T.size = rw (← p.to) (m.below a p.low) in
        ap (λ c. T.summary (cond c i k)) (ne_eqb k T.size (λ z. omega arith)) ∙ p.one;
  }

-- ---- a summary divided embeds in what it was

pub copy_low : {n a : ℕ} (v : ℕ) → a < n → copy n v a ≡ a
copy_low {n} {a} v h = rw (ne_eqb a n (λ z. omega arith))

pub copy_rest : (n v : ℕ) → copy n v n ≡ v
copy_rest n v = rw (eq-eqb n n refl)

pub halved : (R : Shape) (v : ℕ) → v < R.size → R.summary v ≡ true → Embeds (divided R v) R (copy R.size v)
halved R v lv sum = record {
  below = λ a h. top_or_below R.size a h (λ y. rw (y, copy_rest R.size v) lv) (λ k. rw (copy_low v k) k);
  onto = λ i h. (i, omega arith, copy_low v h);
  sole = λ a b h k z y.
      top_or_below R.size a h
      (λ x. clash sum (sym (ap R.summary (ap (copy R.size v) x ∙ copy_rest R.size v)) ∙ y))
      (λ l.
      top_or_below R.size b k
      (λ x. clash sum (sym (ap R.summary (z ∙ ap (copy R.size v) x ∙ copy_rest R.size v)) ∙ y))
      (λ l'. sym (copy_low v l) ∙ z ∙ copy_low v l'));
  mask = λ a h. refl;
  summary = λ a h y. y;
  n = record { shared = λ a h. refl; link = λ a b h k. ⊑_refl };
}
