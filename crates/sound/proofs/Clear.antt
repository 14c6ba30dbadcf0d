-- Clearing and linking respect embeddings. Clearing counts the links into the target: what has 1 in T comes from what has 1
-- in R, and two of R that may link to it are two of T, or one summary.
use Prim.Native.Nat.{ℕ, ◌≤◌, ◌<◌}
use mathlib.Core.Bool.{Bool, true, false, ◌&&◌, ◌||◌}
use mathlib.Core.Logic.{inl, inr}
use mathlib.Core.Path.{◌≡◌, sym, ap, subst, ◌∙◌}
use native.Mathlib.Omega.{arith}
use lib.Dec.{eqb, leb}
use borrow.Author.Tests.{eqb-true, eqb-false, eq-eqb, leb-true, leb-false, le-leb}
use Rattle.model.specs.Truth.{𝟘, 𝟙, may, must}
use Rattle.model.specs.Finite.{Ref}
use Rattle.model.specs.Shape.{Shape}
use Rattle.model.specs.Step.{sure_if, all_zero, ones, mays, summary_may, now_unshared, still_shared, unlinked, cleared, linked}
use Rattle.model.proofs.Bools.{by, same_or_not, and_left, and_right, and_both, or_cases, or_left, or_right, false_of}
use Rattle.model.proofs.Search.{any_intro, count_some, count_apart, some_count, two_count}
use Rattle.model.proofs.Lists.{Met, met_append, met_one, met_given, met_cond, met_in_each}
use Rattle.sound.specs.Order.{◌⊑◌}
use Rattle.sound.proofs.Order.{⊑_refl, sure_both, up, down}
use Rattle.sound.specs.Embed.{Embeds}
use Rattle.sound.proofs.Embed.{Pin, pin, any_up, none_up, two_down, Next, link_into, shared_at, Aim, to_null, to_at}
use Rattle.sound.proofs.Links.{into_carried, sharing_carried, set_carried, with_pin, with_next}
use Rattle.sound.proofs.Open.{opened_met}

-- ---- the target of a clear, unshared now or still shared

module _ {R₀ T₀ : Shape} {e₀ : ℕ → ℕ} {R T : Shape} {e : ℕ → ℕ} {t i : ℕ} (m : Embeds R T e) (keep : (a k : ℕ) → Pin R₀ T₀ e₀ a k → Pin R T e a k) (pt : Pin R T e t i) where
  abbrev one_into : ℕ → Bool
  one_into a = must (R.n.link a t)

  few : leb (ones R t) 1 ≡ true → leb (ones T i) 1 ≡ true
  few y =
      by (leb (ones T i) 1) (λ z. z) (λ z.
      let l = two_down m one_into (λ a. must (T.n.link a i)) (λ a h. down (link_into m pt a h)) (leb-false (ones T i) 1 z) in
      let k = leb-true (ones R t) 1 y in
      absurd (omega arith))

  -- the one that has 1 into i is there in R too
  the_one : ones T i ≡ 1 → (c : ℕ) × (c < R.size) × (one_into c ≡ true) × (must (T.n.link (e c) i) ≡ true)
  the_one q =
      let r = some_count T.size (λ a. must (T.n.link a i)) (omega arith) in
      let s = m.onto r.0 r.1 in
      let w : must (T.n.link (e s.0) i) ≡ true = ap (λ c. must (T.n.link c i)) s.2 ∙ r.2 in
      (s.0, s.1, down (link_into m pt s.0 s.1) w, w)

  sure_into : leb (ones R t) 1 ≡ true → (a b : ℕ) → a < R.size → b < R.size → b ≡ t → sure_if (eqb (ones R t) 1) a (R.n.link a b) ⊑ sure_if (eqb (ones T i) 1) (e a) (T.n.link (e a) (e b))
  sure_into y a b h k z =
      let l : ones R t ≤ 1 = leb-true (ones R t) 1 y in
      let l' : ones T i ≤ 1 = leb-true (ones T i) 1 (few y) in
      let to_i : T.n.link (e a) (e b) ≡ T.n.link (e a) i = ap (T.n.link (e a)) (ap e z ∙ pt.to) in
      sure_both _ _ _ _ (m.n.link a b h k)
      (λ x.
      let r = the_one (eqb-true (ones T i) 1 x) in
      let g = count_some R.size one_into r.0 r.1 r.2 in
      eq-eqb (ones R t) 1 (omega arith))
      (λ x v.
      let r = the_one (eqb-true (ones T i) 1 x) in
      same_or_not a r.0
      (λ q. ap must to_i ∙ subst (λ (c : ℕ). must (T.n.link (e c) i) ≡ true) (sym q) r.3)
      (λ q.
      absurd (let g = count_apart R.size one_into a r.0 q h r.1 (subst (λ (c : ℕ). must (R.n.link a c) ≡ true) z v) r.2 in
      omega arith)))
      (λ x.
      false_of (λ v.
      let g = count_some T.size (λ a. must (T.n.link a i)) (e a) (m.below a h) (sym (ap must to_i) ∙ v) in
      eqb-false (ones T i) 1 x (omega arith)))

  pub unshared_met : Met (Next R₀ T₀ e₀) (now_unshared R t) (now_unshared T i)
  unshared_met =
      met_given _ _ _ _ few (λ y.
      with_next m keep
      (sharing_carried (pin m pt) (into_carried (pin m pt) m.n (sure_if (eqb (ones R t) 1)) (sure_if (eqb (ones T i) 1)) (sure_into y)) false))

  enough : (leb 2 (mays R t) || summary_may R t) ≡ true → (leb 2 (mays T i) || summary_may T i) ≡ true
  enough y =
      elim (or_cases (leb 2 (mays R t)) (summary_may R t) y) [
        | inl x ↦
            (let r = two_count R.size (λ a. may (R.n.link a t)) (leb-true 2 (mays R t) x) in
            let l = r.2 in
            let lb = r.3 in
            let la : r.0 < R.size = omega arith in
            let may_a = up (link_into m pt r.0 la) r.4 in
            same_or_not (e r.0) (e r.1)
            -- two that go to one place make it a summary
            (λ q.
            or_right (leb 2 (mays T i))
            (any_intro T.size (λ a. T.summary a && may (T.n.link a i)) (e r.0) (m.below r.0 la)
            (and_both
            (by (T.summary (e r.0)) (λ z. z) (λ z. absurd (let c = m.sole r.0 r.1 la lb q z in omega arith)))
            may_a)))
            (λ q.
            or_left (summary_may T i)
            (le-leb 2 (mays T i)
            (count_apart T.size (λ a. may (T.n.link a i)) (e r.0) (e r.1) q (m.below r.0 la) (m.below r.1 lb) may_a (up (link_into m pt r.1 lb) r.5)))))
        | inr x ↦
            or_right (leb 2 (mays T i))
            (any_up m (λ a. R.summary a && may (R.n.link a t)) (λ a. T.summary a && may (T.n.link a i)) (λ a h z.
            and_both
            (m.summary a h (and_left (R.summary a) (may (R.n.link a t)) z))
            (up (link_into m pt a h) (and_right (R.summary a) (may (R.n.link a t)) z)))
            x)
      ]

  pub still_met : Met (Next R₀ T₀ e₀) (still_shared R t) (still_shared T i)
  still_met = met_given _ _ _ _ enough (λ y. record { map = e; embeds = m; keep = keep })

-- ---- u's link to the target is cut, or set to w

module _ {R₀ T₀ : Shape} {e₀ : ℕ → ℕ} {R T : Shape} {e : ℕ → ℕ} {u j : ℕ} (m : Embeds R T e) (keep : (a k : ℕ) → Pin R₀ T₀ e₀ a k → Pin R T e a k) (pu : Pin R T e u j) where
  pub unlinked_met : {r s : Ref} → Aim R T e r s → Met (Next R₀ T₀ e₀) (unlinked u R r) (unlinked j T s)
  unlinked_met to_null = met_one (record { map = e; embeds = m; keep = keep })
  unlinked_met (to_at p) =
      let s = with_next m keep (set_carried 𝟘 (pin m pu) (pin m p) m.n) in
      met_cond (shared_at m p)
      (λ _. met_append (unshared_met s.embeds s.keep (with_pin _ _ p)) (still_met s.embeds s.keep (with_pin _ _ p)))
      (λ _. met_one s)

  pub linked_met : {r s : Ref} → Aim R T e r s → Met (Next R₀ T₀ e₀) (linked u r R) (linked j s T)
  linked_met to_null = met_one (record { map = e; embeds = m; keep = keep })
  linked_met (to_at p) =
      met_cond (shared_at m p)
      (λ _. met_one (with_next m keep (set_carried 𝟙 (pin m pu) (pin m p) m.n)))
      (λ _.
      met_append
      (met_given _ _ _ _ (none_up m _ _ (λ a h. down (link_into m p a h)))
      (λ _.
      with_next m keep
      (set_carried 𝟙 (pin m pu) (pin m p) (into_carried (pin m p) m.n all_zero all_zero (λ a b h k z. ⊑_refl)))))
      (met_given _ _ _ _ (any_up m _ _ (λ a h. up (link_into m p a h)))
      (λ _. with_next m keep (set_carried 𝟙 (pin m pu) (pin m p) (sharing_carried (pin m p) m.n true)))))

pub cleared_met : {R T : Shape} {e : ℕ → ℕ} {u j : ℕ} → Embeds R T e → Pin R T e u j → Met (Next R T e) (cleared R u) (cleared T j)
cleared_met {R} {T} {e} {u} {j} m pu =
    met_in_each _ _
    (λ o p x. unlinked_met x.next.embeds x.next.keep (x.next.keep u j pu) x.aim)
    (opened_met m pu)
