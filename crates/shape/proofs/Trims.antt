-- Covering looks at individuals only: what lies beyond them makes no difference, so an outcome may be covered trimmed.
use Prim.Native.Nat.{ℕ, ◌<◌}
use mathlib.Core.Bool.{Bool, cond, not, ◌&&◌, ◌||◌, beq}
use mathlib.Core.Path.{◌≡◌, ap}
use lib.Dec.{eqb, ltb}
use borrow.Author.Tests.{lt-ltb}
use Rattle.model.specs.Truth.{𝟘, under}
use Rattle.model.specs.Shape.{Shape, covered_at, covered}
use Rattle.shape.specs.Meaning.{trimmed}
use Rattle.model.proofs.Search.{every_cong}

module _ (R T : Shape) where
  trimmed_at : (a : ℕ) → a < R.size → covered_at (trimmed R) T a ≡ covered_at R T a
  trimmed_at a h =
      rw (lt-ltb a R.size h)
      (ap
      (λ (e : Bool).
      eqb (R.mask a) (T.mask a)
      && ((not (R.summary a) || T.summary a) && (beq (R.n.shared a) (T.n.shared a) && e)))
      (every_cong R.size
      (λ b. under (cond (ltb b R.size) (R.n.link a b) 𝟘) (T.n.link a b))
      (λ b. under (R.n.link a b) (T.n.link a b))
      (λ b k. rw (lt-ltb b R.size k))))

  pub covered_trimmed : covered (trimmed R) T ≡ covered R T
  covered_trimmed =
      ap (λ (b : Bool). eqb R.size T.size && b)
      (every_cong R.size (covered_at (trimmed R) T) (covered_at R T) trimmed_at)
