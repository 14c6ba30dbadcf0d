-- The step respects embeddings: where R embeds in T, each result of R under any op is met by a result of T with the same
-- successor, in which it embeds.
use Prim.Native.Nat.{ℕ, suc, ◌<◌}
use mathlib.Core.Bool.{true, false, cond, not}
use mathlib.Core.List.{List}
use mathlib.Core.Path.{◌≡◌, refl, sym, ap, ap₂, ◌∙◌}
use native.Mathlib.Omega.{arith}
use lib.Dec.{eqb}
use borrow.Author.Tests.{eqb-true, eq-eqb, ne_eqb}
use Rattle.model.specs.Finite.{Ref, null, at, is, null_ref, equal, bit, put}
use Rattle.model.specs.Store.{Op, stop, go, set_null, set_var, set_new, load, cut, store, is_null, is_same, at_point}
use Rattle.model.specs.Shape.{Links, Shape, holder, Held}
use Rattle.model.specs.Step.{moved, grown, fresh, loaded, cut_off, stored, at_holder, results}
use Rattle.model.proofs.Bools.{clash, by, top_or_below, and_right, and_both, not_false, cond_cong}
use Rattle.model.proofs.Search.{Firstly, nowhere, first_at, firstly}
use Rattle.model.proofs.Lists.{all_weak, some_weak, Met, met_none, met_one, met_in_each, met_map}
use Rattle.sound.proofs.Order.{⊑_refl, ⊑_of, ⊑_trans, cond_⊑}
use Rattle.sound.specs.Embed.{Carried, Embeds, In}
use Rattle.sound.proofs.Embed.{Pin, pin, only_eqb, Next, Aim, to_null, to_at, keep_aim}
use Rattle.sound.proofs.Open.{opened_met}
use Rattle.sound.proofs.Clear.{linked_met, cleared_met}

-- ---- the holder of a variable goes to the holder of the variable

pub holder_aim : {vars : ℕ} {R T : Shape} {e : ℕ → ℕ} (x : ℕ) → Held vars T → Embeds R T e → Aim R T e (holder R x) (holder T x)
holder_aim {R} {T} {e} x w m = go (holder R x) (holder T x) (firstly R.size (λ a. bit x (R.mask a))) (firstly T.size (λ a. bit x (T.mask a)))
  where
    kept : (a : ℕ) → a < R.size → bit x (R.mask a) ≡ true → bit x (T.mask (e a)) ≡ true
    kept a h q = ap (bit x) (sym (m.mask a h)) ∙ q

    go : (r s : Ref) → Firstly R.size (λ a. bit x (R.mask a)) r → Firstly T.size (λ a. bit x (T.mask a)) s → Aim R T e r s
    go null null f g = to_null
    go null (at i) (nowhere f) (first_at h q) =
        let r = m.onto i h in
        clash (ap (bit x) (m.mask r.0 r.1 ∙ ap T.mask r.2) ∙ q) (f r.0 r.1)
    go (at a) null (first_at h q) (nowhere g) = clash (kept a h q) (g (e a) (m.below a h))
    go (at a) (at i) (first_at h q) (first_at k y) =
        to_at (record { low = h; to = w.once x (e a) i (m.below a h) k (kept a h q) y; one = w.plain x i k y })

-- references that go together are null together, equal together, and at individuals that go together
pub null_aim : {R T : Shape} {e : ℕ → ℕ} {r s : Ref} → Aim R T e r s → null_ref r ≡ null_ref s
null_aim to_null = refl
null_aim (to_at p) = refl

is_aim : {R T : Shape} {e : ℕ → ℕ} {r s : Ref} → Embeds R T e → Aim R T e r s → (a : ℕ) → a < R.size → is r a ≡ is s (e a)
is_aim m to_null a h = refl
is_aim m (to_at p) a h = sym (only_eqb (pin m p) a h)

equal_aim : {R T : Shape} {e : ℕ → ℕ} {r s r' s' : Ref} → Embeds R T e → Aim R T e r s → Aim R T e r' s' → equal r r' ≡ equal s s'
equal_aim m to_null to_null = refl
equal_aim m to_null (to_at q) = refl
equal_aim m (to_at p) to_null = refl
equal_aim m (to_at {t = t} p) (to_at {i = k} q) = sym (only_eqb (pin m q) t p.low) ∙ ap (λ c. eqb c k) p.to

-- ---- a variable moves

pub moved_embeds : {R T : Shape} {e : ℕ → ℕ} {r s : Ref} (x : ℕ) → Embeds R T e → Aim R T e r s → Embeds (moved R x r) (moved T x s) e
moved_embeds x m p = record {
  below = m.below;
  onto = m.onto;
  sole = m.sole;
  mask = λ a h. ap₂ (put x) (is_aim m p a h) (m.mask a h);
  summary = m.summary;
  n = m.n;
}

-- ---- a new individual goes to the new one

module _ {R T : Shape} {e : ℕ → ℕ} (x : ℕ) (m : Embeds R T e) where
  abbrev new_map : ℕ → ℕ
  new_map a = cond (eqb a R.size) T.size (e a)

  is_new : (a : ℕ) → a ≡ R.size → new_map a ≡ T.size
  is_new a q = rw (eq-eqb a R.size q)

  is_old : (a : ℕ) → a < R.size → new_map a ≡ e a
  is_old a h = rw (ne_eqb a R.size (λ z. omega arith))

  -- the test for the new one says the same on both sides
  new_eqb : (a : ℕ) → a < suc R.size → eqb a R.size ≡ eqb (new_map a) T.size
  new_eqb a h =
      top_or_below R.size a h
      (λ q. eq-eqb a R.size q ∙ sym (eq-eqb (new_map a) T.size (is_new a q)))
      (λ l.
      ne_eqb a R.size (λ z. omega arith)
      ∙ sym (ne_eqb (new_map a) T.size (let k = m.below a l in let z = is_old a l in λ y. omega arith)))

  low : (a : ℕ) → a < suc R.size → eqb a R.size ≡ false → a < R.size
  low a h q = top_or_below R.size a h (λ z. clash (eq-eqb a R.size z) q) (λ l. l)

  grown_carried : {L M : Links} → Carried R.size e L M → Carried (suc R.size) new_map (grown R.size L) (grown T.size M)
  grown_carried {L} {M} s = record {
    shared = λ a h. cond_cong (new_eqb a h) (λ _. refl) (λ q. s.shared a (low a h q) ∙ ap M.shared (sym (is_old a (low a h q))));
    link = λ a b h k.
        cond_⊑ (new_eqb a h) (λ _. ⊑_refl) (λ q.
        cond_⊑ (new_eqb b k) (λ _. ⊑_refl) (λ q'.
        ⊑_trans (s.link a b (low a h q) (low b k q'))
        (⊑_of (ap₂ M.link (sym (is_old a (low a h q))) (sym (is_old b (low b k q')))))));
  }

  pub fresh_embeds : Embeds (fresh R x) (fresh T x) new_map
  fresh_embeds = record {
    below = λ a h.
        top_or_below R.size a h
        (λ q. let z = is_new a q in omega arith)
        (λ l. let z = is_old a l in let k = m.below a l in omega arith);
    onto = λ i h.
        top_or_below T.size i h
        (λ q. (R.size, omega arith, is_new R.size refl ∙ sym q))
        (λ l. let r = m.onto i l in (r.0, let k = r.1 in omega arith, is_old r.0 r.1 ∙ r.2));
    sole = λ a b h k z y.
        by (eqb a R.size)
        (λ q. eqb-true a R.size q ∙ sym (eqb-true b R.size (there a b h k z ∙ q)))
        (λ q.
        let l = low a h q in
        let l' = low b k (there a b h k z ∙ q) in
        m.sole a b l l' (sym (is_old a l) ∙ z ∙ is_old b l') (ap T.summary (sym (is_old a l)) ∙ rw (not_new a h q) at y));
    mask = λ a h.
        cond_cong (new_eqb a h) (λ _. refl) (λ q. ap (put x false) (m.mask a (low a h q) ∙ ap T.mask (sym (is_old a (low a h q)))));
    summary = λ a h y.
        by (eqb a R.size)
        (λ q. clash (rw q at y) refl)
        (λ q.
        and_both (not_new a h q)
        (ap T.summary (is_old a (low a h q)) ∙ m.summary a (low a h q) (and_right (not (eqb a R.size)) (R.summary a) y)));
    n = grown_carried m.n;
  }
    where
      there : (a b : ℕ) → a < suc R.size → b < suc R.size → new_map a ≡ new_map b → eqb b R.size ≡ eqb a R.size
      there a b h k z = new_eqb b k ∙ ap (λ c. eqb c T.size) (sym z) ∙ sym (new_eqb a h)

      not_new : (a : ℕ) → a < suc R.size → eqb a R.size ≡ false → not (eqb (new_map a) T.size) ≡ true
      not_new a h q = not_false (sym (new_eqb a h) ∙ q)

-- ---- the ops through n

at_met : {r : Shape → Shape → Type 0} {R T : Shape} {e : ℕ → ℕ} {f g : ℕ → List Shape} {a b : Ref} → Aim R T e a b → ((u j : ℕ) → Pin R T e u j → Met r (f u) (g j)) → Met r (at_holder a f) (at_holder b g)
at_met to_null h = met_none
at_met (to_at {t = t} {i = i} p) h = h t i p

in_next : {R T : Shape} {e : ℕ → ℕ} {l m : List Shape} → Met (Next R T e) l m → Met In l m
in_next s = record { met = all_weak (λ a q. some_weak (λ b p. (p.map, p.embeds)) q) s.met }

module _ {vars : ℕ} {R T : Shape} {e : ℕ → ℕ} (x : ℕ) (w : Held vars T) (m : Embeds R T e) where
  loaded_met : (y : ℕ) → Met In (loaded x y R) (loaded x y T)
  loaded_met y =
      at_met (holder_aim y w m) (λ u j pu. met_map _ _ (λ o p z. (z.next.map, moved_embeds x z.next.embeds z.aim)) (opened_met m pu))

  cut_met : Met In (cut_off x R) (cut_off x T)
  cut_met = at_met (holder_aim x w m) (λ u j pu. in_next (cleared_met m pu))

  stored_met : (y : ℕ) → Met In (stored x y R) (stored x y T)
  stored_met y =
      at_met (holder_aim x w m) (λ u j pu.
      in_next
      (met_in_each _ _
      (λ A B p. linked_met p.embeds p.keep (p.keep u j pu) (keep_aim p (holder_aim y w m)))
      (cleared_met m pu)))

-- ---- every op

-- two results with one successor, the first embedded in the second
abbrev pub Into : ℕ × Shape → ℕ × Shape → Type 0
Into r t = (r.0 ≡ t.0) × In r.1 t.1

at_one_point : (s : ℕ) {l m : List Shape} → Met In l m → Met Into (at_point s l) (at_point s m)
at_one_point s t = met_map _ _ (λ A B p. (refl, p)) t

pub results_met : {vars : ℕ} {R T : Shape} {e : ℕ → ℕ} (o : Op) → Held vars T → Embeds R T e → Met Into (results o R) (results o T)
results_met stop w m = met_none
results_met {e} (go s) w m = met_one (refl, (e, m))
results_met {e} (set_null x s) w m = met_one (refl, (e, moved_embeds x m to_null))
results_met {e} (set_var x y s) w m = met_one (refl, (e, moved_embeds x m (holder_aim y w m)))
results_met (set_new x s) w m = met_one (refl, (_, fresh_embeds x m))
results_met (load x y s) w m = at_one_point s (loaded_met x w m y)
results_met (cut x s) w m = at_one_point s (cut_met x w m)
results_met (store x y s) w m = at_one_point s (stored_met x w m y)
results_met {e} (is_null x s₁ s₂) w m = met_one (ap (λ b. cond b s₁ s₂) (null_aim (holder_aim x w m)), (e, m))
results_met {e} (is_same x y s₁ s₂) w m =
    met_one (ap (λ b. cond b s₁ s₂) (equal_aim m (holder_aim x w m) (holder_aim y w m)), (e, m))
