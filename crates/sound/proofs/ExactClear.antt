-- Clearing a cell of the exact shape: among the results is the store with the cell's link cut. Whether the target is shared
-- then is a count of links, which the exact shape has exactly.
use Prim.Native.Nat.{ℕ, ◌<◌}
use mathlib.Core.Bool.{Bool, true, false, cond}
use mathlib.Core.Path.{◌≡◌, refl, sym, ap, subst, ◌∙◌}
use native.Mathlib.Omega.{arith}
use lib.Dec.{eqb, leb}
use borrow.Author.Tests.{eqb-true, leb-false, le-leb}
use Rattle.model.specs.Truth.{𝟘, 𝟙, may, must, sure}
use Rattle.model.specs.Finite.{Ref, null, at, is, count, Some, here}
use Rattle.model.specs.Store.{Store, Proper, shared_by, with_link}
use Rattle.model.specs.Shape.{Shape}
use Rattle.model.specs.Step.{into, with_n, from_u, ones, mays, summary_may, now_unshared, still_shared, unlinked, cleared}
use Rattle.model.proofs.Bools.{clash, by, or_left, false_of, cond_same}
use Rattle.model.proofs.Search.{count_cong}
use Rattle.model.proofs.Lists.{some_left, some_right, some_given, some_weak, some_in_each, met_some}
use Rattle.sound.proofs.Order.{⊑_of}
use Rattle.sound.proofs.Embed.{Aim}
use Rattle.sound.proofs.Clear.{unlinked_met}
use Rattle.sound.specs.Exact.{exact}
use Rattle.sound.proofs.Exact.{exact_may, exact_must, exact_sure, shared_same, shared_more, shared_is, shared_stays, Near, near, near_next, near_aim}
use Rattle.sound.proofs.ExactOpen.{exact_opened}

module _ (vars : ℕ) (σ : Store) (c : ℕ) where
  abbrev W : Shape
  W = exact vars σ

  -- the store with c's link cut
  abbrev σ₁ : Store
  σ₁ = with_link c null σ

  -- ---- the link was null

  pub unlink_null : σ.n c ≡ null → Near vars σ₁ W
  unlink_null e =
      near vars σ₁ W refl (λ a h. refl) (λ a. refl) (record {
        shared = λ a h. shared_same σ.size σ₁.n σ.n a (λ b j. ap (λ r. is r a) (as_it_was b));
        link = λ a b h j. ⊑_of (ap (λ r. cond (is r b) 𝟙 𝟘) (as_it_was a));
      })
    where
      as_it_was : (b : ℕ) → σ₁.n b ≡ σ.n b
      as_it_was b = by (eqb b c) (λ q. rw q (sym (ap σ.n (eqb-true b c q) ∙ e))) (λ q. rw q)

  -- ---- it led to d

  module _ (d : ℕ) (e : σ.n c ≡ at d) where
    -- "set u's link to t to 0"
    abbrev W₁ : Shape
    W₁ = with_n W (into d (from_u c 𝟘) W.n)

    links_c : (b a : ℕ) → eqb b c ≡ true → is (σ.n b) a ≡ eqb a d
    links_c b a q = ap (λ x. is (σ.n x) a) (eqb-true b c q) ∙ ap (λ r. is r a) e

    link_cut : (a b : ℕ) → (exact vars σ₁).n.link a b ≡ W₁.n.link a b
    link_cut a b =
        by (eqb a c)
        (λ q. rw q (by (eqb b d) (λ y. rw y) (λ y. rw y (sym (ap (λ x. cond x 𝟙 𝟘) (links_c a b q ∙ y))))))
        (λ q. rw q (sym (cond_same (eqb b d) refl refl)))

    -- only d can be shared otherwise now, and only less
    abbrev shared_before : ℕ → Bool
    shared_before = shared_by σ.size σ.n

    abbrev shared_after : ℕ → Bool
    shared_after = shared_by σ.size σ₁.n

    links_else : (a b : ℕ) → b < σ.size → eqb a d ≡ false → is (σ₁.n b) a ≡ is (σ.n b) a
    links_else a b j y = by (eqb b c) (λ q. rw q (sym (links_c b a q ∙ y))) (λ q. rw q)

    shared_less : shared_before d ≡ false → shared_after d ≡ false
    shared_less t =
        false_of (λ y.
        clash (shared_more σ.size σ₁.n σ.n d (λ b h z. by (eqb b c) (λ q. clash (rw q at z) refl) (λ q. rw q at z)) y) t)

    near_W₁ : (v : Bool) → shared_after d ≡ v → shared_before d ≡ v → Near vars σ₁ W₁
    near_W₁ v t t' =
        near vars σ₁ W₁ refl (λ a h. refl) (λ a. refl) (record {
          shared = λ a h. shared_stays σ.size σ.n σ₁.n d links_else v t t' a;
          link = λ a b h j. ⊑_of (link_cut a b);
        })

    -- ---- the counts of clearing are the number of cells that still link to d

    abbrev cells_to_d : ℕ
    cells_to_d = count σ.size (λ a. is (σ₁.n a) d)

    ones_exact : cells_to_d ≡ ones W₁ d
    ones_exact = count_cong σ.size _ (λ a. must (W₁.n.link a d)) (λ a h. sym (exact_must (is (σ₁.n a) d)) ∙ ap must (link_cut a d))

    mays_exact : cells_to_d ≡ mays W₁ d
    mays_exact = count_cong σ.size _ (λ a. may (W₁.n.link a d)) (λ a h. sym (exact_may (is (σ₁.n a) d)) ∙ ap may (link_cut a d))

    still : shared_after d ≡ true → shared_before d ≡ true → Some (Near vars σ₁) (still_shared W₁ d)
    still t₁ t = some_given (Near vars σ₁) _ _ (or_left (summary_may W₁ d) (ap (leb 2) (sym mays_exact) ∙ t₁)) (near_W₁ true t₁ t)

    no_more : shared_after d ≡ false → Some (Near vars σ₁) (now_unshared W₁ d)
    no_more t₁ =
        some_given (Near vars σ₁) _ _
        (le-leb (ones W₁ d) 1 (let x = leb-false 2 cells_to_d t₁ in let y = ones_exact in omega arith))
        (near vars σ₁ _ refl (λ a h. refl) (λ a. refl) (record {
          shared = λ a h. shared_is σ.size σ.n σ₁.n d links_else false t₁ a;
          link = λ a b h j.
              ⊑_of (link_cut a b
              ∙ sym (cond_same (eqb b d) (cond_same (eqb (ones W₁ d) 1) (ap sure (sym (link_cut a b)) ∙ exact_sure (is (σ₁.n a) b) ∙ link_cut a b) refl) refl));
        }))

    unlink_at : Some (Near vars σ₁) (unlinked c W (at d))
    unlink_at =
        by (shared_before d)
        (λ t.
        rw t
        (by (shared_after d)
        (λ t₁. some_right (now_unshared W₁ d) (still t₁ t))
        (λ t₁. some_left (still_shared W₁ d) (no_more t₁))))
        (λ t. rw t (here (near_W₁ false (shared_less t) t)))

  exact_unlinked : Some (Near vars σ₁) (unlinked c W (σ.n c))
  exact_unlinked = go (σ.n c) refl
    where
      go : (r : Ref) → σ.n c ≡ r → Some (Near vars σ₁) (unlinked c W r)
      go null e = here (unlink_null e)
      go (at d) e = unlink_at d e

  pub exact_cleared : Proper vars σ → c < σ.size → Some (Near vars σ₁) (cleared W c)
  exact_cleared ok lc =
      some_in_each _
      (some_weak
      (λ o x.
      met_some
      (unlinked_met x.0.embeds (λ a i p. p) (x.0.pins c lc)
      (subst (λ (r : Ref). Aim W o.shape x.0.map (σ.n c) r) (sym x.1) (near_aim vars x.0 (σ.n c) (λ d. ok.n c d lc))))
      (λ R T w p. near_next vars x.0 w (λ a h. h) p)
      exact_unlinked)
      (exact_opened vars σ ok c lc))
