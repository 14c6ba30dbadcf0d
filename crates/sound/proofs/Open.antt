-- Opening and settling respect embeddings: each result of R is met by a result of T, with a target that goes to its target.
-- Where others go to the target's place too, the divided case meets it: they are the rest, which so is not empty.
use Prim.Native.Nat.{ℕ, suc, ◌<◌}
use mathlib.Core.Bool.{true, cond, not, ◌&&◌}
use mathlib.Core.List.{List, [], ◌++◌}
use mathlib.Core.Logic.{◌≢◌}
use mathlib.Core.Path.{◌≡◌, refl, sym, ap, ◌∙◌}
use native.Mathlib.Omega.{arith}
use lib.Dec.{eqb}
use borrow.Author.Tests.{eqb-true, eqb-false, eq-eqb, ne_eqb}
use Rattle.model.specs.Truth.{𝟘, may, must, half}
use Rattle.model.specs.Finite.{any}
use Rattle.model.specs.Shape.{Shape}
use Rattle.model.specs.Step.{Opened, whole, copy, divided, sure_but, settled, no_other, possible, divides, targets, opened}
use Rattle.model.proofs.Bools.{clash, by, and_map, and_left, and_right, and_both, not_true, not_false, false_of}
use Rattle.model.proofs.Search.{any_none, any_elim, any_intro}
use Rattle.model.proofs.Lists.{Met, met_append, met_given, met_cond, met_when, when_met, met_in, met_both, met_left, met_right, met_each}
use Rattle.sound.proofs.Order.{⊑_refl, cond_⊑, sure_sure, half_up, half_of, up, down}
use Rattle.sound.specs.Embed.{Embeds}
use Rattle.sound.proofs.Embed.{embeds_trans, Pin, pin, Only, only_eqb, any_up, none_up, Next, link_into, link_from, shared_at, Aim, to_null, to_at}
use Rattle.sound.proofs.Links.{into_carried, from_carried, with_next, with_pin}
use Rattle.sound.proofs.Divide.{whole_embeds, whole_pin, target_pin, divided_embeds, divided_only, divided_keep, copy_low, copy_rest, halved}

-- two results go together, and so do their targets
pub record Aimed (R T : Shape) (e : ℕ → ℕ) (o p : Opened) : Type 0 where
  pub next : Next R T e o.shape p.shape
  pub aim : Aim o.shape p.shape next.map o.target p.target

-- ---- settling; R₀ in T₀ by e₀ was the start

module _ {R₀ T₀ : Shape} {e₀ : ℕ → ℕ} {R T : Shape} {e : ℕ → ℕ} {u j t i : ℕ} (m : Embeds R T e) (keep : (a k : ℕ) → Pin R₀ T₀ e₀ a k → Pin R T e a k) (pu : Pin R T e u j) (pt : Pin R T e t i) where
  pub settled_met : Met (Aimed R₀ T₀ e₀) (settled R u t) (settled T j i)
  settled_met =
      met_cond (shared_at m pt)
      (λ _.
      met_given _ _ _ _
      (any_up m _ _ (λ a h. rw (only_eqb (pin m pu) a h) (and_map (not (eqb a u)) (up (link_into m pt a h)))))
      (λ _. record { next = record { map = e; embeds = m; keep = keep }; aim = to_at pt }))
      (λ _.
      met_given _ _ _ _
      (none_up m _ _ (λ a h. rw (only_eqb (pin m pu) a h) (and_map (not (eqb a u)) (down (link_into m pt a h)))))
      (λ y. record {
        next = with_next m keep (into_carried (pin m pt) m.n (sure_but u) (sure_but j) (λ a b h k z.
            cond_⊑ (sym (only_eqb (pin m pu) a h)) (λ _. m.n.link a b h k) (λ x.
            -- no other than u has 1 into t
            sure_sure _ _ (m.n.link a b h k) (λ v. clash (any_intro R.size _ a h (and_both (not_false x) (rw z at v))) (not_true y)))));
        aim = to_at (with_pin _ _ pt);
      }))

-- ---- u is opened at v, which alone goes to i

module _ {R₀ T₀ : Shape} {e₀ : ℕ → ℕ} {R T : Shape} {e : ℕ → ℕ} {u j v i : ℕ} (m : Embeds R T e) (keep : (a k : ℕ) → Pin R₀ T₀ e₀ a k → Pin R T e a k) (pu : Pin R₀ T₀ e₀ u j) (o : Only R.size e v i) where
  pub whole_met : Met (Aimed R₀ T₀ e₀) (settled (whole R u v) u v) (settled (whole T j i) j i)
  whole_met =
      settled_met (whole_embeds m (keep u j pu) o) (λ a k p. whole_pin m (keep u j pu) o (keep a k p))
      (whole_pin m (keep u j pu) o (keep u j pu))
      (target_pin m (keep u j pu) o)

-- ---- u is opened at v

module _ {R T : Shape} {e : ℕ → ℕ} {u j v : ℕ} (m : Embeds R T e) (pu : Pin R T e u j) (lv : v < R.size) where
  -- the results at v's place
  abbrev there : List Opened
  there = settled (whole T j (e v)) j (e v) ++ cond (divides T j (e v)) (settled (whole (divided T (e v)) j (e v)) j (e v)) []

  abbrev if_divided : List Opened
  if_divided = cond (divides T j (e v)) (settled (whole (divided T (e v)) j (e v)) j (e v)) []

  no_other_up : no_other R u v ≡ true → no_other T j (e v) ≡ true
  no_other_up =
      none_up m (λ b. not (eqb b v) && must (R.n.link u b)) (λ b. not (eqb b (e v)) && must (T.n.link j b)) (λ a h y.
      and_both
      (not_false (ne_eqb a v (λ z. clash (eq-eqb (e a) (e v) (ap e z)) (not_true (and_left (not (eqb (e a) (e v))) (must (T.n.link j (e a))) y)))))
      (down (link_from m pu a h) (and_right (not (eqb (e a) (e v))) (must (T.n.link j (e a))) y)))

  -- where w goes to v's place too, this is a summary, and its link isn't 1
  unsure : possible R u v ≡ true → (w : ℕ) → w < R.size → w ≢ v → e w ≡ e v → divides T j (e v) ≡ true
  unsure y w lw apart more =
      and_both
      (by (T.summary (e v)) (λ z. z) (λ z. absurd (apart (m.sole w v lw lv more (ap T.summary more ∙ z)))))
      (half_of (T.n.link j (e v)) (up (link_from m pu v lv) (and_left (may (R.n.link u v)) (no_other R u v) y))
      (false_of (λ z.
      clash
      (any_intro R.size (λ b. not (eqb b v) && must (R.n.link u b)) w lw
      (and_both (not_false (ne_eqb w v apart)) (down (link_from m pu w lw) (rw more z))))
      (not_true (and_right (may (R.n.link u v)) (no_other R u v) y)))))

  met_whole : possible R u v ≡ true → Met (Aimed R T e) (settled (whole R u v) u v) there
  met_whole y =
      by (any R.size (λ w. not (eqb w v) && eqb (e w) (e v)))
      (λ z.
      let r = any_elim R.size (λ w. not (eqb w v) && eqb (e w) (e v)) z in
      let w = r.0 in
      let apart : w ≢ v = eqb-false w v (not_true (and_left (not (eqb w v)) (eqb (e w) (e v)) r.2)) in
      let more : e w ≡ e v = eqb-true (e w) (e v) (and_right (not (eqb w v)) (eqb (e w) (e v)) r.2) in
      met_right (settled (whole T j (e v)) j (e v))
      (met_in (unsure y w r.1 apart more)
      (whole_met (divided_embeds m refl lv r.1 apart more) (divided_keep m refl lv r.1 apart more) pu (divided_only m refl lv r.1 apart more))))
      (λ z.
      met_left if_divided
      (whole_met m (λ a k p. p) pu (record {
        low = lv;
        to = refl;
        only = λ b h q.
            by (eqb b v) (λ x. eqb-true b v x) (λ x.
            clash (and_both (not_false x) (eq-eqb (e b) (e v) q)) (any_none R.size (λ w. not (eqb w v) && eqb (e w) (e v)) z b h));
      })))

  -- R's own rest goes to T's
  met_divided : divides R u v ≡ true → Met (Aimed R T e) (settled (whole (divided R v) u v) u v) there
  met_divided y =
      let sum = and_left (R.summary v) (half (R.n.link u v)) y in
      let m' = embeds_trans (halved R v lv sum) m in
      let to = ap e (copy_low v lv) in
      let apart : R.size ≢ v = λ z. omega arith in
      let more : e (copy R.size v R.size) ≡ e v = ap e (copy_rest R.size v) in
      let lw : R.size < suc R.size = omega arith in
      let lv' : v < suc R.size = omega arith in
      met_right (settled (whole T j (e v)) j (e v))
      (met_in (and_both (m.summary v lv sum) (half_up (link_from m pu v lv) (and_right (R.summary v) (half (R.n.link u v)) y)))
      (whole_met (divided_embeds m' to lv' lw apart more)
      (λ a k p.
      divided_keep m' to lv' lw apart more a k (record { low = let l = p.low in omega arith; to = ap e (copy_low v p.low) ∙ p.to; one = p.one }))
      pu
      (divided_only m' to lv' lw apart more)))

  pub targets_met : Met (Aimed R T e) (targets R u v) (targets T j (e v))
  targets_met =
      met_when (possible R u v) (possible T j (e v)) (λ y. (
        and_both
            (up (link_from m pu v lv) (and_left (may (R.n.link u v)) (no_other R u v) y))
            (no_other_up (and_right (may (R.n.link u v)) (no_other R u v) y)),
        met_both (met_whole y) (when_met (divides R u v) met_divided),
      ))

pub opened_met : {R T : Shape} {e : ℕ → ℕ} {u j : ℕ} → Embeds R T e → Pin R T e u j → Met (Aimed R T e) (opened R u) (opened T j)
opened_met {R} {T} {e} {u} {j} m pu =
    met_append
    (met_given _ _ _ _ (none_up m _ _ (λ a h. down (link_from m pu a h)))
    (λ _. record {
      next = with_next m (λ a k p. p) (from_carried (pin m pu) m.n (λ b. 𝟘) (λ b. 𝟘) (λ b h. ⊑_refl));
      aim = to_null;
    }))
    (met_each R.size T.size (targets R u) (targets T j) e m.below (λ v h. targets_met m pu h))
