-- The order facts on truth values: `under` is an order, and `join` is the least upper bound. There are three values, so each
-- law is a test that is computed over all of them.
use mathlib.Core.Bool.{Bool, true, false, cond, not, ◌&&◌, ◌||◌}
use mathlib.Core.Path.{◌≡◌, refl, sym, ap, ◌∙◌}
use lib.Dec.{eqb}
use borrow.Author.Tests.{eqb-true}
use Rattle.model.specs.Truth.{Truth, 𝟘, 𝟙, ½, may, must, half, join, under, sure, truth, code}
use Rattle.sound.specs.Order.{◌⊑◌}
use Rattle.model.proofs.Bools.{clash, not_false, and_left, and_right}

-- ---- a law by its table

abbrev table₁ : (Truth → Bool) → Bool
table₁ p = p 𝟘 && (p 𝟙 && p ½)

by_table₁ : (p : Truth → Bool) → table₁ p ≡ true → (v : Truth) → p v ≡ true
by_table₁ p e 𝟘 = and_left (p 𝟘) (p 𝟙 && p ½) e
by_table₁ p e 𝟙 = and_left (p 𝟙) (p ½) (and_right (p 𝟘) (p 𝟙 && p ½) e)
by_table₁ p e ½ = and_right (p 𝟙) (p ½) (and_right (p 𝟘) (p 𝟙 && p ½) e)

by_table₂ : (p : Truth → Truth → Bool) → table₁ (λ v. table₁ (p v)) ≡ true → (v w : Truth) → p v w ≡ true
by_table₂ p e v = by_table₁ (p v) (by_table₁ (λ v. table₁ (p v)) e v)

by_table₃ : (p : Truth → Truth → Truth → Bool) → table₁ (λ u. table₁ (λ v. table₁ (p u v))) ≡ true → (u v w : Truth) → p u v w ≡ true
by_table₃ p e u = by_table₂ (p u) (by_table₁ (λ u. table₁ (λ v. table₁ (p u v))) e u)

-- a test under a condition
infixr 25 ◌⇒◌
abbrev ◌⇒◌ : Bool → Bool → Bool
◌⇒◌ b c = not b || c

meet : {b c : Bool} → (b ⇒ c) ≡ true → b ≡ true → c ≡ true
meet {b = true} e h = e
meet {b = false} e h = clash h refl

when : {b c : Bool} → (b ≡ true → c ≡ true) → (b ⇒ c) ≡ true
when {b = true} f = f refl
when {b = false} f = refl

-- equal values
abbrev is : Truth → Truth → Bool
is v w = eqb (code v) (code w)

truth_code : (v : Truth) → truth (code v) ≡ v
truth_code 𝟘 = refl
truth_code 𝟙 = refl
truth_code ½ = refl

is_true : {v w : Truth} → is v w ≡ true → v ≡ w
is_true {v} {w} e = sym (truth_code v) ∙ ap truth (eqb-true (code v) (code w) e) ∙ truth_code w

-- ---- `under` is an order

pub under_refl : (v : Truth) → under v v ≡ true
under_refl = by_table₁ (λ v. under v v) refl

pub under_trans : (u v w : Truth) → under u v ≡ true → under v w ≡ true → under u w ≡ true
under_trans u v w p q = meet (meet (by_table₃ (λ u v w. under u v ⇒ under v w ⇒ under u w) refl u v w) p) q

pub under_antisym : (v w : Truth) → under v w ≡ true → under w v ≡ true → v ≡ w
under_antisym v w p q = is_true (meet (meet (by_table₂ (λ v w. under v w ⇒ under w v ⇒ is v w) refl v w) p) q)

-- ---- `join` is the least upper bound

pub join_left : (v w : Truth) → under v (join v w) ≡ true
join_left = by_table₂ (λ v w. under v (join v w)) refl

pub join_right : (v w : Truth) → under w (join v w) ≡ true
join_right = by_table₂ (λ v w. under w (join v w)) refl

pub join_least : (v w x : Truth) → under v x ≡ true → under w x ≡ true → under (join v w) x ≡ true
join_least v w x p q = meet (meet (by_table₃ (λ v w x. under v x ⇒ under w x ⇒ under (join v w) x) refl v w x) p) q

-- ---- the order as a relation, for proofs about values that are not named

pub ⊑_refl : {v : Truth} → v ⊑ v
⊑_refl {v} = record { lies = under_refl v }

pub ⊑_of : {v w : Truth} → v ≡ w → v ⊑ w
⊑_of {v} e = rw (← e) (⊑_refl {v = v})

pub ⊑_trans : {u v w : Truth} → u ⊑ v → v ⊑ w → u ⊑ w
⊑_trans {u} {v} {w} p q = record { lies = under_trans u v w p.lies q.lies }

pub ⊑_half : {v : Truth} → v ⊑ ½
⊑_half {v} = record { lies = by_table₁ (λ v. under v ½) refl v }

-- a value under another may be 1 only where the other may, and must be 1 where the other must
pub up : {v w : Truth} → v ⊑ w → may v ≡ true → may w ≡ true
up {v} {w} p h = meet (meet (by_table₂ (λ v w. under v w ⇒ may v ⇒ may w) refl v w) p.lies) h

pub down : {v w : Truth} → v ⊑ w → must w ≡ true → must v ≡ true
down {v} {w} p h = meet (meet (by_table₂ (λ v w. under v w ⇒ must w ⇒ must v) refl v w) p.lies) h

pub half_up : {v w : Truth} → v ⊑ w → half v ≡ true → half w ≡ true
half_up {v} {w} p h = meet (meet (by_table₂ (λ v w. under v w ⇒ half v ⇒ half w) refl v w) p.lies) h

pub half_of : (v : Truth) → may v ≡ true → must v ≡ false → half v ≡ true
half_of v h k = meet (meet (by_table₁ (λ v. may v ⇒ not (must v) ⇒ half v) refl v) h) (not_false k)

-- ---- "every 1/2 becomes 0" on both sides of the order: it is no order map, for 1 lies under 1/2

pub sure_sure : (v w : Truth) → v ⊑ w → (must v ≡ true → must w ≡ true) → sure v ⊑ sure w
sure_sure v w p h = record {
  lies = meet (meet (by_table₂ (λ v w. under v w ⇒ (must v ⇒ must w) ⇒ under (sure v) (sure w)) refl v w) p.lies) (when h);
}

pub sure_left : (v w : Truth) → v ⊑ w → must w ≡ false → sure v ⊑ w
sure_left v w p h = record {
  lies = meet (meet (by_table₂ (λ v w. under v w ⇒ not (must w) ⇒ under (sure v) w) refl v w) p.lies) (not_false h);
}

-- under a test on each side
pub sure_both : (b c : Bool) (v w : Truth) → v ⊑ w → (c ≡ true → b ≡ true) → (c ≡ true → must v ≡ true → must w ≡ true) → (c ≡ false → must w ≡ false) → cond b (sure v) v ⊑ cond c (sure w) w
sure_both true true v w p f g h = sure_sure v w p (g refl)
sure_both true false v w p f g h = sure_left v w p (h refl)
sure_both false true v w p f g h = clash (f refl) refl
sure_both false false v w p f g h = p

-- ---- a choice by tests that agree

cond_below : (b : Bool) {x x' y y' : Truth} → (b ≡ true → x ⊑ x') → (b ≡ false → y ⊑ y') → cond b x y ⊑ cond b x' y'
cond_below true f g = f refl
cond_below false f g = g refl

pub cond_⊑ : {b c : Bool} {x x' y y' : Truth} → b ≡ c → (b ≡ true → x ⊑ x') → (b ≡ false → y ⊑ y') → cond b x y ⊑ cond c x' y'
cond_⊑ {b} q f g = rw (← q) (cond_below b f g)
