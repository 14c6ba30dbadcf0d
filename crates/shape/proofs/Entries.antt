-- Masks and flags: one entry set, and shapes equal part by part.
use Prim.Native.Nat.{ℕ, zero, suc, ◌+◌, ◌-◌, ◌*◌, ◌/◌, ◌%◌, ◌<◌, ◌≤◌}
use mathlib.Core.Bool.{Bool, true, false, cond, not, ◌&&◌}
use mathlib.Core.List.{List}
use mathlib.Core.Logic.{◌≢◌}
use mathlib.Core.Path.{◌≡◌, refl, sym, ap, ◌∙◌, fun_ext}
use native.Mathlib.Omega.{arith}
use lib.Dec.{eqb, ltb}
use lib.ListN.{get_or, set, length, replicate, take}
use lib.Seq.{get_or-set_same, get_or-set_other, get_or-take, length-take-le}
use borrow.Author.Tests.{eqb-true, eqb-false, eq-eqb, ne_eqb}
use mir.Val.{bool_byte}
use Rattle.model.specs.Truth.{Truth, 𝟘, truth}
use Rattle.model.specs.Step.{edge, copy}
use Rattle.model.proofs.Bools.{by}
use Rattle.shape.specs.Meaning.{made, mask, shared, summary, grid}

pub made_eq : {n n' : ℕ} {m m' : ℕ → ℕ} {s s' h h' : ℕ → Bool} {l l' : ℕ → ℕ → Truth} → n ≡ n' → m ≡ m' → s ≡ s' → h ≡ h' → l ≡ l' → made n m s h l ≡ made n' m' s' h' l'
made_eq e f g h k = rw (e, f, g, h, k)

pub at_set : (l : List ℕ) (i v a : ℕ) → i < length l → get_or (set l i v) a 0 ≡ cond (eqb a i) v (get_or l a 0)
at_set l i v a h =
    by (eqb a i)
    (λ q. rw (q, eqb-true a i q, get_or-set_same l i v 0 h))
    (λ q. rw q (get_or-set_other l i a v 0 (eqb-false a i q)))

cond_in : {A B : Type 0} (f : A → B) (b : Bool) (x y : A) → f (cond b x y) ≡ cond b (f x) (f y)
cond_in f true x y = refl
cond_in f false x y = refl

pub mask_set : (l : List ℕ) (i v : ℕ) → i < length l → mask (set l i v) ≡ (λ a. cond (eqb a i) v (mask l a))
unfolding mask
mask_set l i v h = fun_ext (λ a. at_set l i v a h)

pub shared_set : (l : List ℕ) (i v : ℕ) → i < length l → shared (set l i v) ≡ (λ a. cond (eqb a i) (eqb (v % 2) 1) (shared l a))
unfolding shared
shared_set l i v h = fun_ext (λ a. ap (λ w. eqb (w % 2) 1) (at_set l i v a h) ∙ cond_in (λ w. eqb (w % 2) 1) (eqb a i) v (get_or l a 0))

pub summary_set : (l : List ℕ) (i v : ℕ) → i < length l → summary (set l i v) ≡ (λ a. cond (eqb a i) (eqb (v / 2 % 2) 1) (summary l a))
unfolding summary
summary_set l i v h = fun_ext (λ a. ap (λ w. eqb (w / 2 % 2) 1) (at_set l i v a h) ∙ cond_in (λ w. eqb (w / 2 % 2) 1) (eqb a i) v (get_or l a 0))

-- one entry that is set to what it was, or to what the definition says
pub same_entry : {A : Type 0} (g : ℕ → A) (i : ℕ) (v : A) → v ≡ g i → (λ a. cond (eqb a i) v (g a)) ≡ g
same_entry g i v e = fun_ext (λ a. by (eqb a i) (λ q. rw q (e ∙ ap g (sym (eqb-true a i q)))) (λ q. rw q))

pub copied_entry : {A : Type 0} (g : ℕ → A) (n i : ℕ) (v : A) → v ≡ g i → ◌≡◌ {A = ℕ → A} (λ a. cond (eqb a n) v (g a)) (λ a. g (copy n i a))
copied_entry g n i v e = fun_ext (λ a. by (eqb a n) (λ q. rw q e) (λ q. rw q))

pub no_entry : (g : ℕ → Bool) (i : ℕ) (v : Bool) → v ≡ false → ◌≡◌ {A = ℕ → Bool} (λ a. cond (eqb a i) v (g a)) (λ a. not (eqb a i) && g a)
no_entry g i v e = fun_ext (λ a. by (eqb a i) (λ q. rw (q, e)) (λ q. rw q))

-- a bit of the flags
pub shared_at : (l : List ℕ) (a : ℕ) → shared l a ≡ eqb (get_or l a 0 % 2) 1
unfolding shared
shared_at l a = refl

pub summary_at : (l : List ℕ) (a : ℕ) → summary l a ≡ eqb (get_or l a 0 / 2 % 2) 1
unfolding summary
summary_at l a = refl

pub no_summary : (f : ℕ) → eqb (f % 2 / 2 % 2) 1 ≡ false
no_summary f = ne_eqb (f % 2 / 2 % 2) 1 (λ e. omega arith)

pub still_bit : (f : ℕ) → eqb (f % 2 % 2) 1 ≡ eqb (f % 2) 1
still_bit f = ap (λ x. eqb x 1) (let z : f % 2 % 2 ≡ f % 2 = omega arith in z)

pub mask_at : (l : List ℕ) (a : ℕ) → get_or l a 0 ≡ mask l a
unfolding mask
mask_at l a = refl

-- the first n of an array
module _ (l : List ℕ) (n : ℕ) (h : n ≤ length l) where
  pub front_length : length (take n l) ≡ n
  front_length = length-take-le n l h

  pub front_at : (a : ℕ) → a < length (take n l) → get_or (take n l) a 0 ≡ mask l a
  front_at a i = get_or-take n l a 0 (omega (arith, front_length)) ∙ mask_at l a

-- the shared bit is taken away, or given
module _ (f : List ℕ) (t : ℕ) (h : t < length f) (b : Bool) where
  abbrev shared_as : ℕ
  shared_as = get_or f t 0 - get_or f t 0 % 2 + bool_byte b

  pub put_shared : shared (set f t shared_as) ≡ (λ a. cond (eqb a t) b (shared f a))
  put_shared = shared_set f t shared_as h ∙ ap (λ (c : Bool). λ (a : ℕ). cond (eqb a t) c (shared f a)) (low_bit (get_or f t 0) b)
    where
      low_bit : (x : ℕ) (b : Bool) → eqb ((x - x % 2 + bool_byte b) % 2) 1 ≡ b
      low_bit x true = eq-eqb ((x - x % 2 + 1) % 2) 1 (omega arith)
      low_bit x false = ne_eqb ((x - x % 2 + 0) % 2) 1 (λ e. omega arith)

  pub put_summary : summary (set f t shared_as) ≡ summary f
  put_summary =
      summary_set f t shared_as h
      ∙ same_entry (summary f) t (eqb (shared_as / 2 % 2) 1) (ap (λ (x : ℕ). eqb (x % 2) 1) (high_bits (get_or f t 0) b) ∙ sym (summary_at f t))
    where
      high_bits : (x : ℕ) (b : Bool) → (x - x % 2 + bool_byte b) / 2 ≡ x / 2
      high_bits x true = omega arith
      high_bits x false = omega arith

-- ---- nothing yet

pub zeros : (n a : ℕ) → ◌≡◌ {A = ℕ} (get_or (replicate n 0) a 0) 0
zeros zero a = refl
zeros (suc n) zero = refl
zeros (suc n) (suc a) = zeros n a

pub mask_zeros : (n : ℕ) → mask (replicate n 0) ≡ (λ a. 0)
unfolding mask
mask_zeros n = fun_ext (λ a. zeros n a)

pub shared_zeros : (n : ℕ) → shared (replicate n 0) ≡ (λ a. false)
unfolding shared
shared_zeros n = fun_ext (λ a. ap (λ (x : ℕ). eqb (x % 2) 1) (zeros n a))

pub summary_zeros : (n : ℕ) → summary (replicate n 0) ≡ (λ a. false)
unfolding summary
summary_zeros n = fun_ext (λ a. ap (λ (x : ℕ). eqb (x / 2 % 2) 1) (zeros n a))

pub grid_zeros : (n : ℕ) → grid (replicate n 0) ≡ (λ a b. 𝟘)
unfolding grid
grid_zeros n =
    fun_ext (λ a. fun_ext (λ b. ap (λ (x : ℕ). cond (ltb a edge && ltb b edge) (truth x) 𝟘) (zeros n (a * edge + b)) ∙ ends (ltb a edge && ltb b edge)))
  where
    ends : (b : Bool) → cond b 𝟘 𝟘 ≡ 𝟘
    ends true = refl
    ends false = refl

-- ---- the key of a mask and flags

odd_one : (f : ℕ) → f % 2 ≡ cond (eqb (f % 2) 1) 1 0
odd_one f =
    by (eqb (f % 2) 1)
    (λ q. rw q (eqb-true (f % 2) 1 q))
    (λ q. rw q (let d : f % 2 ≢ 1 = eqb-false (f % 2) 1 q in omega arith))

pub key_is : (m f : List ℕ) (a : ℕ) → 65536 * (get_or f a 0 % 2) + get_or m a 0 ≡ 65536 * cond (shared f a) 1 0 + mask m a
unfolding shared mask
key_is m f a = ap (λ (x : ℕ). 65536 * x + get_or m a 0) (odd_one (get_or f a 0))
