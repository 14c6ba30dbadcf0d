-- Covering is the embedding that moves nothing, so that it is an order on shapes of any size.
use Prim.Native.Nat.{ℕ, ◌<◌}
use mathlib.Core.Bool.{Bool, true, false, not, ◌&&◌, ◌||◌, beq}
use mathlib.Core.Path.{◌≡◌, refl, ◌∙◌}
use lib.Dec.{eqb}
use borrow.Author.Tests.{eqb-true, eq-eqb}
use Rattle.model.specs.Truth.{under}
use Rattle.model.specs.Finite.{every}
use Rattle.model.specs.Shape.{Links, Shape, links_covered, covered_at, covered}
use Rattle.model.proofs.Bools.{and_left, and_right, and_both, beq_true, eq_beq, same_bool}
use Rattle.model.proofs.Search.{every_elim, every_intro}
use Rattle.sound.proofs.Order.{under_antisym}
use Rattle.sound.specs.Embed.{Carried, Embeds}
use Rattle.sound.proofs.Embed.{embeds_trans, carried_same}

-- ---- one link's part

module _ (k : ℕ) (L M : Links) where
  abbrev row : ℕ → Bool
  row a = every k (λ b. under (L.link a b) (M.link a b))

  carried_of : ((a : ℕ) → a < k → links_covered k L M a ≡ true) → Carried k (λ a. a) L M
  carried_of f = record {
    shared = λ a h. beq_true (L.shared a) (M.shared a) (and_left (beq (L.shared a) (M.shared a)) (row a) (f a h));
    link = λ a b h j. record {
      lies = every_elim k (λ b. under (L.link a b) (M.link a b)) (and_right (beq (L.shared a) (M.shared a)) (row a) (f a h)) b j;
    };
  }

  of_carried : Carried k (λ a. a) L M → (a : ℕ) → a < k → links_covered k L M a ≡ true
  of_carried s a h =
      and_both
      (eq_beq (L.shared a) (M.shared a) (s.shared a h))
      (every_intro k (λ b. under (L.link a b) (M.link a b)) (λ b j. (s.link a b h j).lies))

-- ---- covered, and embedded by the identity

module _ (R T : Shape) (c : covered R T ≡ true) where
  pub covered_size : R.size ≡ T.size
  covered_size = eqb-true R.size T.size (and_left (eqb R.size T.size) (every R.size (covered_at R T)) c)

  each_covered : (a : ℕ) → a < R.size → covered_at R T a ≡ true
  each_covered = every_elim R.size (covered_at R T) (and_right (eqb R.size T.size) (every R.size (covered_at R T)) c)

  abbrev summary_part : ℕ → Bool
  summary_part a = not (R.summary a) || T.summary a

  abbrev links_part : ℕ → Bool
  links_part a = links_covered R.size R.n T.n a

  beyond_mask : (a : ℕ) → a < R.size → (summary_part a && links_part a) ≡ true
  beyond_mask a h = and_right (eqb (R.mask a) (T.mask a)) (summary_part a && links_part a) (each_covered a h)

  pub covered_embeds : Embeds R T (λ a. a)
  covered_embeds = record {
    below = λ a h. rw (← covered_size) h;
    onto = λ i h. (i, rw covered_size h, refl);
    sole = λ a b h k q y. q;
    mask = λ a h. eqb-true (R.mask a) (T.mask a) (and_left (eqb (R.mask a) (T.mask a)) (summary_part a && links_part a) (each_covered a h));
    summary = λ a h y. rw y at (and_left (summary_part a) (links_part a) (beyond_mask a h));
    n = carried_of R.size R.n T.n (λ a h. and_right (summary_part a) (links_part a) (beyond_mask a h));
  }

kept_summary : (b c : Bool) → (b ≡ true → c ≡ true) → (not b || c) ≡ true
kept_summary true c f = f refl
kept_summary false c f = refl

pub embeds_covered : (R T : Shape) → R.size ≡ T.size → Embeds R T (λ a. a) → covered R T ≡ true
embeds_covered R T z m =
    and_both
    (eq-eqb R.size T.size z)
    (every_intro R.size (covered_at R T) (λ a h.
    and_both
    (eq-eqb (R.mask a) (T.mask a) (m.mask a h))
    (and_both (kept_summary (R.summary a) (T.summary a) (m.summary a h)) (of_carried R.size R.n T.n m.n a h))))

-- ---- the order facts

pub covered_refl : (R : Shape) → covered R R ≡ true
covered_refl R =
    embeds_covered R R refl (record {
      below = λ a h. h;
      onto = λ i h. (i, h, refl);
      sole = λ a b h k q y. q;
      mask = λ a h. refl;
      summary = λ a h y. y;
      n = carried_same;
    })

pub covered_trans : (R S T : Shape) → covered R S ≡ true → covered S T ≡ true → covered R T ≡ true
covered_trans R S T p q =
    embeds_covered R T (covered_size R S p ∙ covered_size S T q) (embeds_trans (covered_embeds R S p) (covered_embeds S T q))

-- the two say the same of the same individuals
pub record Alike (R T : Shape) : Type 0 where
  pub size : R.size ≡ T.size
  pub mask : (a : ℕ) → a < R.size → R.mask a ≡ T.mask a
  pub summary : (a : ℕ) → a < R.size → R.summary a ≡ T.summary a
  pub shared : (a : ℕ) → a < R.size → R.n.shared a ≡ T.n.shared a
  pub link : (a b : ℕ) → a < R.size → b < R.size → R.n.link a b ≡ T.n.link a b

pub covered_antisym : (R T : Shape) → covered R T ≡ true → covered T R ≡ true → Alike R T
covered_antisym R T p q = record {
  size = covered_size R T p;
  mask = there.mask;
  summary = λ a h. same_bool (there.summary a h) (back.summary a (low a h));
  shared = there.n.shared;
  link = λ a b h k.
      under_antisym (R.n.link a b) (T.n.link a b) (there.n.link a b h k).lies (back.n.link a b (low a h) (low b k)).lies;
}
  where
    there : Embeds R T (λ a. a)
    there = covered_embeds R T p

    back : Embeds T R (λ a. a)
    back = covered_embeds T R q

    low : (a : ℕ) → a < R.size → a < T.size
    low = there.below
