-- A store fits a shape of different keys exactly when its exact shape embeds there. And fit composes with covering: what
-- fits R fits whatever covers R.
use Prim.Native.Nat.{ℕ, ◌<◌}
use mathlib.Core.Bool.{Bool, true, false, ◌&&◌, cond, beq}
use mathlib.Core.Path.{◌≡◌, refl, sym, ap, ap₂, subst, ◌∙◌}
use lib.Dec.{eqb}
use borrow.Author.Tests.{eqb-true, eq-eqb}
use Rattle.model.specs.Truth.{Truth, 𝟘, 𝟙, ½, may, must}
use Rattle.model.specs.Finite.{Ref, null, at, is, null_ref, first}
use Rattle.model.specs.Store.{Store, Proper, shared_by}
use Rattle.model.specs.Shape.{Links, Shape, holder, covered, own_mask, Of, Says, Fits, Held}
use Rattle.model.proofs.Bools.{clash, and_left, and_right, and_both, false_of, beq_true, eq_beq}
use Rattle.model.proofs.Search.{Firstly, nowhere, first_at, firstly}
use Rattle.sound.specs.Order.{◌⊑◌}
use Rattle.sound.proofs.Order.{⊑_refl, ⊑_half, up, down}
use Rattle.sound.specs.Embed.{Carried, Embeds}
use Rattle.sound.proofs.Covering.{covered_embeds}
use Rattle.sound.proofs.Keys.{Keyed}
use Rattle.sound.proofs.Respects.{holder_aim, null_aim}
use Rattle.sound.specs.Exact.{seen, exact}
use Rattle.sound.proofs.Exact.{is_at, is_true, exact_may, exact_must, shared_not, holder_exact}

-- ---- fit composes with covering

module _ (vars : ℕ) (σ : Store) (R T : Shape) (f : Fits vars σ R) (c : covered R T ≡ true) where
  m : Embeds R T (λ a. a)
  m = covered_embeds R T c

  low : (a : ℕ) → a < T.size → a < R.size
  low a h = let r = m.onto a h in rw (← r.2) r.1

  of_T : (x a : ℕ) → a < R.size → Of vars σ R x a → Of vars σ T x a
  of_T x a h o = record { mask = o.mask ∙ m.mask a h; shared = o.shared ∙ m.n.shared a h }

  of_R : (x a : ℕ) → a < R.size → Of vars σ T x a → Of vars σ R x a
  of_R x a h o = record { mask = o.mask ∙ sym (m.mask a h); shared = o.shared ∙ sym (m.n.shared a h) }

  is_one : (v : Truth) → must v ≡ true → v ≡ 𝟙
  is_one 𝟘 e = clash e refl
  is_one 𝟙 e = refl
  is_one ½ e = clash e refl

  is_zero : (v : Truth) → may v ≡ false → v ≡ 𝟘
  is_zero 𝟘 e = refl
  is_zero 𝟙 e = clash refl e
  is_zero ½ e = clash refl e

  pub fits_covered : Fits vars σ T
  fits_covered = record {
    known = λ x h. let r = f.known x h in (r.0, m.below r.0 r.1, of_T x r.0 r.1 r.2);
    inhabited = λ a h. let r = f.inhabited a (low a h) in (r.0, r.1, of_T r.0 a (low a h) r.2);
    alone = λ a x y h j k s o p.
        f.alone a x y (low a h) j k (false_of (λ z. clash (m.summary a (low a h) z) s)) (of_R x a (low a h) o) (of_R y a (low a h) p);
    n = record {
      one = λ a b x y h h' j k o p q.
          f.n.one a b x y (low a h) (low b h') j k (of_R x a (low a h) o) (of_R y b (low b h') p)
          (is_one (R.n.link a b) (down (m.n.link a b (low a h) (low b h')) (ap must q)));
      zero = λ a b x y h h' j k o p q.
          f.n.zero a b x y (low a h) (low b h') j k (of_R x a (low a h) o) (of_R y b (low b h') p)
          (is_zero (R.n.link a b) (false_of (λ z. clash (up (m.n.link a b (low a h) (low b h')) z) (ap may q))));
    };
  }

-- ---- fit is an embedding

exact_under : (b : Bool) (v : Truth) → (v ≡ 𝟙 → b ≡ true) → (v ≡ 𝟘 → b ≡ false) → cond b 𝟙 𝟘 ⊑ v
exact_under true 𝟘 f g = clash refl (g refl)
exact_under true 𝟙 f g = ⊑_refl
exact_under true ½ f g = ⊑_half
exact_under false 𝟘 f g = ⊑_refl
exact_under false 𝟙 f g = clash (f refl) refl
exact_under false ½ f g = ⊑_half

module _ (vars : ℕ) (σ : Store) (T : Shape) where
  -- the cell c has the key of the individual i
  has_key : ℕ → ℕ → Bool
  has_key c i = eqb (own_mask vars σ.var c) (T.mask i) && beq (shared_by σ.size σ.n c) (T.n.shared i)

  key_of : (c i : ℕ) → has_key c i ≡ true → Of vars σ T c i
  unfolding has_key
  key_of c i e = record {
    mask = eqb-true (own_mask vars σ.var c) (T.mask i) (and_left (eqb (own_mask vars σ.var c) (T.mask i)) (beq (shared_by σ.size σ.n c) (T.n.shared i)) e);
    shared = beq_true (shared_by σ.size σ.n c) (T.n.shared i) (and_right (eqb (own_mask vars σ.var c) (T.mask i)) (beq (shared_by σ.size σ.n c) (T.n.shared i)) e);
  }

  of_key : (c i : ℕ) → Of vars σ T c i → has_key c i ≡ true
  unfolding has_key
  of_key c i o =
      and_both
      (eq-eqb (own_mask vars σ.var c) (T.mask i) o.mask)
      (eq_beq (shared_by σ.size σ.n c) (T.n.shared i) o.shared)

  number : Ref → ℕ
  number null = 0
  number (at i) = i

  -- where a cell goes: to the individual of its key
  pub home : ℕ → ℕ
  home c = number (first T.size (has_key c))

  module _ (f : Fits vars σ T) where
    home_is : (c : ℕ) → c < σ.size → (home c < T.size) × Of vars σ T c (home c)
    unfolding home number
    home_is c h = go (first T.size (has_key c)) (firstly T.size (has_key c))
      where
        go : (r : Ref) → Firstly T.size (has_key c) r → (number r < T.size) × Of vars σ T c (number r)
        go null (nowhere g) = let i = f.known c h in clash (of_key c i.0 i.2) (g i.0 i.1)
        go (at i) (first_at l q) = (l, key_of c i q)

    says_carried : (g : ℕ → Ref) (L : Links) → Says vars σ T g L → ((a : ℕ) → a < σ.size → shared_by σ.size g a ≡ L.shared (home a)) → Carried σ.size home (seen σ.size g) L
    says_carried g L w s = record {
      shared = s;
      link = λ a b h j.
          let o = home_is a h in
          let q = home_is b j in
          exact_under (is (g a) b) (L.link (home a) (home b))
          (λ y. ap (λ r. is r b) (w.one (home a) (home b) a b o.0 q.0 h j o.1 q.1 y) ∙ is_at b)
          (λ y. false_of (λ z. w.zero (home a) (home b) a b o.0 q.0 h j o.1 q.1 y (is_true (g a) b z)));
    }

    pub fits_embeds : Keyed T → Embeds (exact vars σ) T home
    fits_embeds keyed = record {
      below = λ c h. (home_is c h).0;
      onto = λ i h.
          let r = f.inhabited i h in
          let o = home_is r.0 r.1 in
          (r.0, r.1, keyed (home r.0) i o.0 h (sym o.1.mask ∙ r.2.mask) (sym o.1.shared ∙ r.2.shared));
      sole = λ a b h j q y.
          let o = home_is a h in
          f.alone (home a) a b o.0 h j y o.1 (subst (λ (i : ℕ). Of vars σ T b i) (sym q) (home_is b j).1);
      mask = λ a h. (home_is a h).1.mask;
      summary = λ a h y. clash y refl;
      n = says_carried σ.n T.n f.n (λ a h. (home_is a h).1.shared);
    }

  -- ---- and back

  module _ {e : ℕ → ℕ} (keyed : Keyed T) (m : Embeds (exact vars σ) T e) where
    goes_to : (c i : ℕ) → c < σ.size → i < T.size → Of vars σ T c i → e c ≡ i
    goes_to c i h j o = keyed (e c) i (m.below c h) j (sym (m.mask c h) ∙ o.mask) (sym (m.n.shared c h) ∙ o.shared)

    carried_says : (g : ℕ → Ref) (L : Links) → Carried σ.size e (seen σ.size g) L → Says vars σ T g L
    carried_says g L s = record {
      one = λ i j c d h h' l l' o q y.
          is_true (g c) d (sym (exact_must (is (g c) d)) ∙ down (s.link c d l l') (ap must (ap₂ L.link (goes_to c i l h o) (goes_to d j l' h' q) ∙ y)));
      zero = λ i j c d h h' l l' o q y z.
          clash
          (up (s.link c d l l') (exact_may (is (g c) d) ∙ ap (λ r. is r d) z ∙ is_at d))
          (ap may (ap₂ L.link (goes_to c i l h o) (goes_to d j l' h' q) ∙ y));
    }

    pub embeds_fits : Fits vars σ T
    embeds_fits = record {
      known = λ c h. (e c, m.below c h, record { mask = m.mask c h; shared = m.n.shared c h });
      inhabited = λ i h.
          let r = m.onto i h in (
            r.0,
            r.1,
            record {
              mask = m.mask r.0 r.1 ∙ ap T.mask r.2;
              shared = m.n.shared r.0 r.1 ∙ ap T.n.shared r.2;
            },
          );
      alone = λ i c d h j l y o q.
          let z = goes_to c i j h o in
          m.sole c d j l (z ∙ sym (goes_to d i l h q)) (ap T.summary z ∙ y);
      n = carried_says σ.n T.n m.n;
    }

-- ---- what fit says of variables and of sharing

pub fits_null : (vars : ℕ) (σ : Store) → Proper vars σ → (T : Shape) → Held vars T → Keyed T → Fits vars σ T → (x : ℕ) → x < vars → null_ref (σ.var x) ≡ null_ref (holder T x)
fits_null vars σ ok T held keyed f x l =
    ap null_ref (sym (holder_exact vars σ ok x l)) ∙ null_aim (holder_aim x held (fits_embeds vars σ T f keyed))

pub fits_unshared : (vars : ℕ) (σ : Store) (T : Shape) → Fits vars σ T → ((i : ℕ) → i < T.size → T.n.shared i ≡ false) → (a b c : ℕ) → c < σ.size → a < σ.size → b < σ.size → σ.n a ≡ at c → σ.n b ≡ at c → a ≡ b
fits_unshared vars σ T f none a b c l h k p q =
    let r = f.known c l in
    shared_not σ.size σ.n c (r.2.shared ∙ none r.0 r.1) a b h k (ap (λ r. is r c) p ∙ is_at c) (ap (λ r. is r c) q ∙ is_at c)
