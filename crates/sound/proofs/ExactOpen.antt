-- Opening a cell of the exact shape: among the results is the store itself, with the cell's link as the target. A shared
-- target has a second link and an unshared one has none, so that settling keeps it.
use Prim.Native.Nat.{ℕ, ◌<◌}
use mathlib.Core.Bool.{Bool, true, false, cond, not, ◌&&◌}
use mathlib.Core.List.{[]}
use mathlib.Core.Path.{◌≡◌, refl, sym, ap, ◌∙◌}
use lib.Dec.{eqb}
use borrow.Author.Tests.{eqb-true, eqb-false, eq-eqb, ne_eqb}
use Rattle.model.specs.Truth.{𝟘, 𝟙, may, must, sure}
use Rattle.model.specs.Finite.{Ref, null, at, is, any, each, Some}
use Rattle.model.specs.Store.{Store, Proper, shared_by}
use Rattle.model.specs.Shape.{Shape}
use Rattle.model.specs.Step.{into, Opened, no_target, whole, divided, sure_but, settled, possible, divides, targets, opened}
use Rattle.model.proofs.Bools.{by, clash, and_false, and_left, and_right, and_both, not_true, not_false, cond_same}
use Rattle.model.proofs.Search.{any_intro, none_any}
use Rattle.model.proofs.Lists.{some_left, some_right, some_each, some_given}
use Rattle.sound.proofs.Order.{⊑_refl, ⊑_of}
use Rattle.sound.specs.Exact.{exact}
use Rattle.sound.proofs.Exact.{exact_may, exact_must, exact_sure, shared_other, shared_not, Near, near}

module _ (vars : ℕ) (σ : Store) (ok : Proper vars σ) (c : ℕ) (lc : c < σ.size) where
  abbrev W : Shape
  W = exact vars σ

  abbrev pub Opens : Opened → Type 0
  Opens o = Near vars σ o.shape × (o.target ≡ σ.n c)

  -- ---- a null link

  open_null : σ.n c ≡ null → Some Opens (opened W c)
  open_null e =
      some_left (each σ.size (targets W c))
      (some_given Opens _ _
      (not_false (none_any σ.size (λ b. must (W.n.link c b)) (λ b h y.
      clash (sym (ap (λ r. must (cond (is r b) 𝟙 𝟘)) e) ∙ y) refl))) (
        near vars σ _ refl (λ a h. refl) (λ a. refl) (record {
          shared = λ a h. refl;
          link = λ a b h j.
              by (eqb a c)
              (λ q. rw q (⊑_of (ap (λ x. cond (is (σ.n x) b) 𝟙 𝟘) (eqb-true a c q) ∙ ap (λ r. cond (is r b) 𝟙 𝟘) e)))
              (λ q. rw q ⊑_refl);
        }),
        sym e,
      ))

  -- ---- a link to d

  module _ (d : ℕ) (e : σ.n c ≡ at d) where
    links_c : (b : ℕ) → is (σ.n c) b ≡ eqb b d
    links_c b = ap (λ r. is r b) e

    possible_c : possible W c d ≡ true
    possible_c =
        and_both
        (exact_may (is (σ.n c) d) ∙ links_c d ∙ eq-eqb d d refl)
        (not_false (none_any σ.size (λ b. not (eqb b d) && must (W.n.link c b)) (λ b h y.
        clash
        (sym (links_c b) ∙ sym (exact_must (is (σ.n c) b)) ∙ and_right (not (eqb b d)) (must (W.n.link c b)) y)
        (not_true (and_left (not (eqb b d)) (must (W.n.link c b)) y)))))

    -- the whole case changes no value of the exact shape
    abbrev W₁ : Shape
    W₁ = whole W c d

    whole_link : (a b : ℕ) → W.n.link a b ≡ W₁.n.link a b
    whole_link a b =
        by (eqb a c)
        (λ q. rw q (ap (λ x. cond (is (σ.n x) b) 𝟙 𝟘) (eqb-true a c q) ∙ ap (λ x. cond x 𝟙 𝟘) (links_c b)))
        (λ q. rw q)

    -- and settling none either
    settled_link : (a b : ℕ) → W.n.link a b ≡ (into d (sure_but c) W₁.n).link a b
    settled_link a b =
        whole_link a b
        ∙ sym (cond_same (eqb b d) (cond_same (eqb a c) refl (ap sure (sym (whole_link a b)) ∙ exact_sure (is (σ.n a) b) ∙ whole_link a b)) refl)

    abbrev other_may : ℕ → Bool
    other_may a = not (eqb a c) && may (W₁.n.link a d)

    abbrev other_must : ℕ → Bool
    other_must a = not (eqb a c) && must (W₁.n.link a d)

    some_other : shared_by σ.size σ.n d ≡ true → any σ.size other_may ≡ true
    some_other t =
        let r = shared_other σ.size σ.n d c t in
        any_intro σ.size other_may r.0 r.1
        (and_both (not_false (ne_eqb r.0 c r.2)) (ap may (sym (whole_link r.0 d)) ∙ exact_may (is (σ.n r.0) d) ∙ r.3))

    no_other : shared_by σ.size σ.n d ≡ false → any σ.size other_must ≡ false
    no_other t =
        none_any σ.size other_must (λ a h y.
        eqb-false a c (not_true (and_left (not (eqb a c)) (must (W₁.n.link a d)) y))
        (shared_not σ.size σ.n d t a c h lc
        (sym (exact_must (is (σ.n a) d)) ∙ ap must (whole_link a d) ∙ and_right (not (eqb a c)) (must (W₁.n.link a d)) y)
        (links_c d ∙ eq-eqb d d refl)))

    no_summary : (a : ℕ) → W₁.summary a ≡ false
    no_summary a = and_false (not (eqb a d)) refl

    settle_c : Some Opens (settled W₁ c d)
    settle_c =
        by (shared_by σ.size σ.n d)
        (λ t.
        rw t
        (some_given Opens _ _ (some_other t)
        (near vars σ _ refl (λ a h. refl) no_summary (record { shared = λ a h. refl; link = λ a b h j. ⊑_of (whole_link a b) }), sym e)))
        (λ t.
        rw t
        (some_given Opens _ _ (not_false (no_other t))
        (near vars σ _ refl (λ a h. refl) no_summary (record { shared = λ a h. refl; link = λ a b h j. ⊑_of (settled_link a b) }), sym e)))

    open_at : Some Opens (opened W c)
    open_at =
        some_right (no_target W c)
        (some_each σ.size (targets W c) d (ok.n c d lc e)
        (rw possible_c (some_left (cond (divides W c d) (settled (whole (divided W d) c d) c d) []) settle_c)))

  pub exact_opened : Some Opens (opened W c)
  exact_opened = go (σ.n c) refl
    where
      go : (r : Ref) → σ.n c ≡ r → Some Opens (opened W c)
      go null e = open_null e
      go (at d) e = open_at d e
