-- Embeddings, the one relation that does everything: each individual of R goes to one of T that has its key, onto all of T,
-- two to one place only at a summary, and link values go under. A store fits a shape if its exact shape embeds there,
-- covering is the embedding that moves nothing, and every part of a step respects embeddings.
use Rattle.std.specs.Prelude.{ℕ, ◌<◌, true, false, ◌≡◌}
use Rattle.model.specs.Shape.{Links, Shape}
use Rattle.sound.specs.Order.{◌⊑◌}

-- one link's part: shared bits are kept, link values go under, along e
pub record Carried (size : ℕ) (e : ℕ → ℕ) (L M : Links) : Type 0 where
  pub shared : (a : ℕ) → a < size → L.shared a ≡ M.shared (e a)
  pub link : (a b : ℕ) → a < size → b < size → L.link a b ⊑ M.link (e a) (e b)

pub record Embeds (R T : Shape) (e : ℕ → ℕ) : Type 0 where
  pub below : (a : ℕ) → a < R.size → e a < T.size
  pub onto : (i : ℕ) → i < T.size → (a : ℕ) × (a < R.size) × (e a ≡ i)
  pub sole : (a b : ℕ) → a < R.size → b < R.size → e a ≡ e b → T.summary (e a) ≡ false → a ≡ b
  pub mask : (a : ℕ) → a < R.size → R.mask a ≡ T.mask (e a)
  pub summary : (a : ℕ) → a < R.size → R.summary a ≡ true → T.summary (e a) ≡ true
  pub n : Carried R.size e R.n T.n

-- R embeds in T somehow
abbrev pub In : Shape → Shape → Type 0
In R T = (e : ℕ → ℕ) × Embeds R T e
