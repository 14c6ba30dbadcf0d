-- Linking a cell with a null link in the exact shape: among the results is the store with that link.
use Prim.Native.Nat.{ℕ, ◌<◌}
use mathlib.Core.Bool.{Bool, true, false, cond, not}
use mathlib.Core.Path.{◌≡◌, refl, sym, ap, ◌∙◌}
use lib.Dec.{eqb}
use borrow.Author.Tests.{eqb-true, eq-eqb, ne_eqb}
use Rattle.model.specs.Truth.{𝟘, 𝟙, may, must}
use Rattle.model.specs.Finite.{Ref, null, at, is, any, given, Some, here}
use Rattle.model.specs.Store.{Store, shared_by, with_link}
use Rattle.model.specs.Shape.{Shape}
use Rattle.model.specs.Step.{into, sharing, with_n, from_u, all_zero, linked}
use Rattle.model.proofs.Bools.{clash, by, not_false, false_of, cond_same, cond_cong}
use Rattle.model.proofs.Search.{any_none, any_elim, any_intro, none_any}
use Rattle.model.proofs.Lists.{some_left, some_right, some_given}
use Rattle.sound.proofs.Order.{⊑_of}
use Rattle.sound.specs.Exact.{exact}
use Rattle.sound.proofs.Exact.{is_at, exact_may, exact_must, shared_other, shared_two, shared_more, shared_is, shared_stays, Near, near}
use Rattle.sound.proofs.ExactClear.{unlink_null}

-- c has a null link, and is then linked to w
module _ (vars : ℕ) (σ : Store) (c w : ℕ) (lc : c < σ.size) (e : σ.n c ≡ null) where
  abbrev W : Shape
  W = exact vars σ

  abbrev σ₁ : Store
  σ₁ = with_link c (at w) σ

  links_none : (b a : ℕ) → eqb b c ≡ true → is (σ.n b) a ≡ false
  links_none b a q = ap (λ x. is (σ.n x) a) (eqb-true b c q) ∙ ap (λ r. is r a) e

  links_more : (b a : ℕ) → is (σ.n b) a ≡ true → is (σ₁.n b) a ≡ true
  links_more b a y = by (eqb b c) (λ q. clash y (links_none b a q)) (λ q. rw q y)

  links_c : is (σ₁.n c) w ≡ true
  links_c = rw (eq-eqb c c refl) (is_at w)

  link_set : (a b : ℕ) → (exact vars σ₁).n.link a b ≡ (into w (from_u c 𝟙) W.n).link a b
  link_set a b =
      by (eqb a c)
      (λ q. rw q (by (eqb b w) (λ y. rw y) (λ y. rw y (sym (ap (λ x. cond x 𝟙 𝟘) (links_none a b q))))))
      (λ q. rw q (sym (cond_same (eqb b w) refl refl)))

  -- only w can be shared otherwise now
  abbrev shared_before : ℕ → Bool
  shared_before = shared_by σ.size σ.n

  abbrev shared_after : ℕ → Bool
  shared_after = shared_by σ.size σ₁.n

  links_else : (a b : ℕ) → b < σ.size → eqb a w ≡ false → is (σ₁.n b) a ≡ is (σ.n b) a
  links_else a b j y = by (eqb b c) (λ q. rw q (y ∙ sym (links_none b a q))) (λ q. rw q)

  -- ---- w was shared: it stays so

  link_shared : shared_before w ≡ true → Near vars σ₁ (with_n W (into w (from_u c 𝟙) W.n))
  link_shared t =
      near vars σ₁ _ refl (λ a h. refl) (λ a. refl) (record {
        shared = λ a h. shared_stays σ.size σ.n σ₁.n w links_else true (shared_more σ.size σ.n σ₁.n w (λ b j. links_more b w) t) t a;
        link = λ a b h j. ⊑_of (link_set a b);
      })

  -- ---- no cell linked to w: it stays unshared, and "all links into w become 0" changes nothing

  abbrev to_w : ℕ → Bool
  to_w a = is (σ.n a) w

  link_first : shared_before w ≡ false → any σ.size to_w ≡ false → Near vars σ₁ (with_n W (into w (from_u c 𝟙) (into w all_zero W.n)))
  link_first t z =
      near vars σ₁ _ refl (λ a h. refl) (λ a. refl) (record {
        shared = λ a h. shared_stays σ.size σ.n σ₁.n w links_else false not_twice t a;
        link = λ a b h j.
            ⊑_of (link_set a b
            ∙ cond_cong {b = eqb b w} refl
            (λ y. cond_cong {b = eqb a c} {x = 𝟙} refl (λ _. refl) (λ q. zero_there a b h y ∙ sym (ap (λ x. cond x 𝟘 (W.n.link a b)) y)))
            (λ y. sym (ap (λ x. cond x 𝟘 (W.n.link a b)) y)));
      })
    where
      not_twice : shared_after w ≡ false
      not_twice =
          false_of (λ y.
          let r = shared_other σ.size σ₁.n w c y in
          clash (rw (ne_eqb r.0 c r.2) at r.3) (any_none σ.size to_w z r.0 r.1))

      zero_there : (a b : ℕ) → a < σ.size → eqb b w ≡ true → W.n.link a b ≡ 𝟘
      zero_there a b h y = ap (λ x. cond x 𝟙 𝟘) (ap (is (σ.n a)) (eqb-true b w y) ∙ any_none σ.size to_w z a h)

  -- ---- one did: "w becomes shared, other links stay"

  link_second : (a : ℕ) → a < σ.size → is (σ.n a) w ≡ true → Near vars σ₁ (with_n W (into w (from_u c 𝟙) (sharing w true W.n)))
  link_second o lo y =
      near vars σ₁ _ refl (λ a h. refl) (λ a. refl) (record {
        shared = λ a h.
            shared_is σ.size σ.n σ₁.n w links_else true
            (shared_two σ.size σ₁.n w o c (λ z. clash y (links_none o w (eq-eqb o c z))) lo lc (links_more o w y) links_c)
            a;
        link = λ a b h j. ⊑_of (link_set a b);
      })

  abbrev first_given : Bool
  first_given = not (any σ.size (λ a. must (W.n.link a w)))

  abbrev second_given : Bool
  second_given = any σ.size (λ a. may (W.n.link a w))

  exact_link : Some (Near vars σ₁) (linked c (at w) W)
  exact_link =
      by (shared_before w)
      (λ t. rw t (here (link_shared t)))
      (λ t.
      rw t
      (by (any σ.size to_w)
      (λ z.
      let r = any_elim σ.size to_w z in
      some_right (given first_given (with_n W (into w (from_u c 𝟙) (into w all_zero W.n))))
      (some_given (Near vars σ₁) _ _
      (any_intro σ.size (λ a. may (W.n.link a w)) r.0 r.1 (exact_may (is (σ.n r.0) w) ∙ r.2))
      (link_second r.0 r.1 r.2)))
      (λ z.
      some_left (given second_given (with_n W (into w (from_u c 𝟙) (sharing w true W.n))))
      (some_given (Near vars σ₁) _ _
      (not_false (none_any σ.size (λ a. must (W.n.link a w)) (λ a h y.
      clash (sym (exact_must (is (σ.n a) w)) ∙ y) (any_none σ.size to_w z a h))))
      (link_first t z)))))

pub exact_linked : (vars : ℕ) (σ : Store) (c : ℕ) → c < σ.size → σ.n c ≡ null → (r : Ref) → Some (Near vars (with_link c r σ)) (linked c r (exact vars σ))
exact_linked vars σ c lc e null = here (unlink_null vars σ c e)
exact_linked vars σ c lc e (at w) = exact_link vars σ c w lc e
