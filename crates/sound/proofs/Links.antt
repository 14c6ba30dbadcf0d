-- Changes of links are carried along an embedding: at an individual that alone goes to its place, on both sides at once.
use Prim.Native.Nat.{ℕ, ◌<◌}
use mathlib.Core.Bool.{Bool}
use mathlib.Core.Path.{◌≡◌, refl, sym, ap, ap₂, ◌∙◌}
use borrow.Author.Tests.{eqb-true}
use Rattle.model.specs.Truth.{Truth}
use Rattle.model.specs.Shape.{Links, Shape}
use Rattle.model.specs.Step.{from, into, sharing, with_n, from_u, copied}
use Rattle.model.proofs.Bools.{cond_cong}
use Rattle.sound.specs.Order.{◌⊑◌}
use Rattle.sound.proofs.Order.{⊑_refl, ⊑_of, ⊑_trans, cond_⊑}
use Rattle.sound.specs.Embed.{Carried, Embeds}
use Rattle.sound.proofs.Embed.{Pin, Only, only_eqb, Next}

module _ {size : ℕ} {e : ℕ → ℕ} {t i : ℕ} {L M : Links} (o : Only size e t i) (s : Carried size e L M) where
  pub into_carried : (f g : ℕ → Truth → Truth) → ((a b : ℕ) → a < size → b < size → b ≡ t → f a (L.link a b) ⊑ g (e a) (M.link (e a) (e b))) → Carried size e (into t f L) (into i g M)
  into_carried f g h = record {
    shared = s.shared;
    link = λ a b j k. cond_⊑ (sym (only_eqb o b k)) (λ y. h a b j k (eqb-true b t y)) (λ y. s.link a b j k);
  }

  pub from_carried : (f g : ℕ → Truth) → ((b : ℕ) → b < size → f b ⊑ g (e b)) → Carried size e (from t f L) (from i g M)
  from_carried f g h = record {
    shared = s.shared;
    link = λ a b j k. cond_⊑ (sym (only_eqb o a j)) (λ y. h b k) (λ y. s.link a b j k);
  }

  pub sharing_carried : (v : Bool) → Carried size e (sharing t v L) (sharing i v M)
  sharing_carried v = record {
    shared = λ a j. cond_cong (sym (only_eqb o a j)) (λ _. refl) (λ _. s.shared a j);
    link = s.link;
  }

-- the value from u to t is set
pub set_carried : {size : ℕ} {e : ℕ → ℕ} {u j t i : ℕ} {L M : Links} (v : Truth) → Only size e u j → Only size e t i → Carried size e L M → Carried size e (into t (from_u u v) L) (into i (from_u j v) M)
set_carried {u} {j} v ou ot s =
    into_carried ot s (from_u u v) (from_u j v) (λ a b h k z. cond_⊑ (sym (only_eqb ou a h)) (λ _. ⊑_refl) (λ _. s.link a b h k))

-- M has copies, f says which each one goes to, and c takes a copy back
pub copied_carried : {size : ℕ} {e : ℕ → ℕ} {L M : Links} (c f : ℕ → ℕ) → ((a : ℕ) → a < size → c (f a) ≡ e a) → Carried size e L M → Carried size f L (copied c M)
copied_carried {M} c f back s = record {
  shared = λ a h. s.shared a h ∙ ap M.shared (sym (back a h));
  link = λ a b h k. ⊑_trans (s.link a b h k) (⊑_of (ap₂ M.link (sym (back a h)) (sym (back b k))));
}

-- ---- a shape with other links

pub with_embeds : {R T : Shape} {e : ℕ → ℕ} {L M : Links} → Embeds R T e → Carried R.size e L M → Embeds (with_n R L) (with_n T M) e
with_embeds m s = record { below = m.below; onto = m.onto; sole = m.sole; mask = m.mask; summary = m.summary; n = s }

pub with_pin : {R T : Shape} {e : ℕ → ℕ} (L M : Links) {a i : ℕ} → Pin R T e a i → Pin (with_n R L) (with_n T M) e a i
with_pin L M p = record { low = p.low; to = p.to; one = p.one }

-- R₀ in T₀ by e₀ was the start
abbrev pub with_next : {R₀ T₀ R T : Shape} {e₀ e : ℕ → ℕ} {L M : Links} → Embeds R T e → ((a i : ℕ) → Pin R₀ T₀ e₀ a i → Pin R T e a i) → Carried R.size e L M → Next R₀ T₀ e₀ (with_n R L) (with_n T M)
with_next {e} {L} {M} m keep s = record { map = e; embeds = with_embeds m s; keep = λ a i p. with_pin L M (keep a i p) }
