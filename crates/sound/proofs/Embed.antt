-- Embeddings compose, and carry searches and counts along. What is pinned, an individual that alone goes to its place, stays
-- so through the parts of a step.
use Prim.Native.Nat.{ℕ, ◌≤◌, ◌<◌}
use mathlib.Core.Bool.{Bool, true, false, not}
use mathlib.Core.Path.{◌≡◌, refl, sym, ap, ◌∙◌}
use native.Mathlib.Omega.{arith}
use lib.Dec.{eqb}
use borrow.Author.Tests.{eqb-true, eq-eqb}
use Rattle.model.specs.Finite.{Ref, null, at, any, count}
use Rattle.model.specs.Shape.{Links, Shape}
use Rattle.model.proofs.Bools.{clash, same_bool, by, not_false, not_true, false_of}
use Rattle.model.proofs.Search.{any_intro, any_elim, two_count, count_apart}
use Rattle.sound.specs.Embed.{Carried, Embeds}
use Rattle.sound.specs.Order.{◌⊑◌}
use Rattle.sound.proofs.Order.{⊑_refl, ⊑_trans}

-- ---- they compose

pub carried_same : {size : ℕ} {L : Links} → Carried size (λ a. a) L L
carried_same = record { shared = λ a h. refl; link = λ a b h k. ⊑_refl }

pub carried_trans : {k m : ℕ} {e f : ℕ → ℕ} {L M N : Links} → ((a : ℕ) → a < k → e a < m) → Carried k e L M → Carried m f M N → Carried k (λ a. f (e a)) L N
carried_trans {e} low s t = record {
  shared = λ a h. s.shared a h ∙ t.shared (e a) (low a h);
  link = λ a b h j. ⊑_trans (s.link a b h j) (t.link (e a) (e b) (low a h) (low b j));
}

pub embeds_trans : {R S T : Shape} {e f : ℕ → ℕ} → Embeds R S e → Embeds S T f → Embeds R T (λ a. f (e a))
embeds_trans {R} {S} {T} {e} {f} p q = record {
  below = λ a h. q.below (e a) (p.below a h);
  onto = λ i h.
      let s = q.onto i h in
      let r = p.onto s.0 s.1 in
      (r.0, r.1, ap f r.2 ∙ s.2);
  sole = λ a b h k m z.
      let eq = q.sole (e a) (e b) (p.below a h) (p.below b k) m z in
      p.sole a b h k eq (by (S.summary (e a)) (λ y. clash (q.summary (e a) (p.below a h) y) z) (λ y. y));
  mask = λ a h. p.mask a h ∙ q.mask (e a) (p.below a h);
  summary = λ a h y. q.summary (e a) (p.below a h) (p.summary a h y);
  n = carried_trans p.below p.n q.n;
}

-- ---- individuals that stand alone

-- of the individuals below size, e takes v and no other to i
pub record Only (size : ℕ) (e : ℕ → ℕ) (v i : ℕ) : Type 0 where
  pub low : v < size
  pub to : e v ≡ i
  pub only : (b : ℕ) → b < size → e b ≡ i → b ≡ v

pub only_eqb : {size : ℕ} {e : ℕ → ℕ} {v i : ℕ} → Only size e v i → (b : ℕ) → b < size → eqb (e b) i ≡ eqb b v
only_eqb {e} {v} {i} o b h =
    same_bool
    (λ m. eq-eqb b v (o.only b h (eqb-true (e b) i m)))
    (λ m. eq-eqb (e b) i (ap e (eqb-true b v m) ∙ o.to))

-- a goes to i, which is no summary: so nothing else does
pub record Pin (R T : Shape) (e : ℕ → ℕ) (a i : ℕ) : Type 0 where
  pub low : a < R.size
  pub to : e a ≡ i
  pub one : T.summary i ≡ false

pub pin : {R T : Shape} {e : ℕ → ℕ} {u i : ℕ} → Embeds R T e → Pin R T e u i → Only R.size e u i
pin {u} p q = record {
  low = q.low;
  to = q.to;
  only = λ b h m. p.sole b u h q.low (m ∙ sym q.to) (rw m q.one);
}

-- what a pinned individual is linked to and from, and its shared bit
module _ {R T : Shape} {e : ℕ → ℕ} {t i : ℕ} (m : Embeds R T e) (p : Pin R T e t i) where
  pub link_into : (a : ℕ) → a < R.size → R.n.link a t ⊑ T.n.link (e a) i
  link_into a h = rw (← p.to) (m.n.link a t h p.low)

  pub link_from : (a : ℕ) → a < R.size → R.n.link t a ⊑ T.n.link i (e a)
  link_from a h = rw (← p.to) (m.n.link t a p.low h)

  pub shared_at : R.n.shared t ≡ T.n.shared i
  shared_at = rw (← p.to) (m.n.shared t p.low)

-- ---- searches and counts are carried along

module _ {R T : Shape} {e : ℕ → ℕ} (m : Embeds R T e) (p q : ℕ → Bool) where
  pub any_up : ((a : ℕ) → a < R.size → p a ≡ true → q (e a) ≡ true) → any R.size p ≡ true → any T.size q ≡ true
  any_up f h =
      let r = any_elim R.size p h in
      any_intro T.size q (e r.0) (m.below r.0 r.1) (f r.0 r.1 r.2)

  -- where the test comes down from T to R
  module _ (f : (a : ℕ) → a < R.size → q (e a) ≡ true → p a ≡ true) where
    pub none_up : not (any R.size p) ≡ true → not (any T.size q) ≡ true
    none_up h =
        not_false (false_of (λ y.
        let r = any_elim T.size q y in
        let s = m.onto r.0 r.1 in
        clash (any_intro R.size p s.0 s.1 (f s.0 s.1 (ap q s.2 ∙ r.2))) (not_true h)))

    pub two_down : 2 ≤ count T.size q → 2 ≤ count R.size p
    two_down h =
        let r = two_count T.size q h in
        let s = m.onto r.0 (let l = r.2 in let k = r.3 in omega arith) in
        let t = m.onto r.1 r.3 in
        count_apart R.size p s.0 t.0
        (λ z. let l = r.2 in let x : r.0 ≡ r.1 = sym s.2 ∙ ap e z ∙ t.2 in omega arith)
        s.1
        t.1
        (f s.0 s.1 (ap q s.2 ∙ r.4))
        (f t.0 t.1 (ap q t.2 ∙ r.5))

-- ---- an embedding of what a part of a step made of R and T, with all that was pinned

pub record Next (R T : Shape) (e : ℕ → ℕ) (R₁ T₁ : Shape) : Type 0 where
  pub map : ℕ → ℕ
  pub embeds : Embeds R₁ T₁ map
  pub keep : (a i : ℕ) → Pin R T e a i → Pin R₁ T₁ map a i

-- the two references go together: both null, or both at a pinned individual
pub data Aim (R T : Shape) (e : ℕ → ℕ) : Ref → Ref → Type 0 where
  to_null : Aim R T e null null
  to_at : {t i : ℕ} → Pin R T e t i → Aim R T e (at t) (at i)

pub keep_aim : {R T R₁ T₁ : Shape} {e : ℕ → ℕ} {r s : Ref} (p : Next R T e R₁ T₁) → Aim R T e r s → Aim R₁ T₁ p.map r s
keep_aim p to_null = to_null
keep_aim p (to_at {t = t} {i = i} q) = to_at (p.keep t i q)
