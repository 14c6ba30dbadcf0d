-- Looking up and moving variables: a search of the masks, a loop over them, and places below the edge.
use Prim.Native.Nat.{ℕ, zero, suc, ◌+◌, ◌<◌, ◌≤◌}
use mathlib.Core.Bool.{Bool, false, cond}
use mathlib.Core.List.{List, [], ◌∷◌}
use mathlib.Core.Path.{◌≡◌, refl, sym, ap, ◌∙◌, fun_ext}
use native.Mathlib.Omega.{arith}
use lib.Dec.{eqb, ltb}
use lib.ListN.{get_or, set, length, length-set, take}
use Rattle.std.specs.Prelude.{Option, None, Some, position}
use Rattle.std.specs.List.{position_or_len}
use Rattle.std.proofs.lemmas.List.{length-take-le, get_or-take}
use Rattle.std.proofs.lemmas.List.Sums.{fails_before_first}
use Rattle.std.proofs.lemmas.List.Quantifiers.{position-Some}
use borrow.Author.Tests.{eqb-true, eqb-false, ne_eqb, ltb-false, lt-ltb, le-ltb}
use Rattle.model.specs.Finite.{is, put, first}
use Rattle.model.specs.Step.{edge}
use Rattle.model.proofs.Bools.{by, clash}
use Rattle.model.proofs.Search.{none_any, first_hit, first_none}
use Rattle.shape.specs.Meaning.{mask, index, ref}
use Rattle.shape.specs.declared.Place.{Place}
use Rattle.shape.specs.declared.Place.TheVariants.{At, Null}
use Rattle.shape.proofs.Tests.{ltb_step}
use Rattle.shape.proofs.Entries.{mask_set}
use Rattle.shape.proofs.MaskBits.{put_none}

module _ (new old : ℕ → ℕ) where
  abbrev pub Lined : ℕ → List ℕ → Type 0
  Lined a r = (length r ≡ edge) × (mask r ≡ (λ x. cond (ltb x a) (new x) (old x)))

  pub lined_none : (r : List ℕ) → length r ≡ edge → mask r ≡ old → Lined 0 r
  lined_none r z e = (z, e ∙ fun_ext (λ x. rw (le-ltb x 0 (omega arith))))

  pub lined_read : (r : List ℕ) (a : ℕ) → Lined a r → get_or r a 0 ≡ old a
  unfolding mask
  lined_read r a inv = ap (λ (g : ℕ → ℕ). g a) inv.1 ∙ rw (le-ltb a a (omega arith))

  pub lined_next : (r : List ℕ) (a v : ℕ) → a < edge → v ≡ new a → Lined a r → Lined (a + 1) (set r a v)
  lined_next r a v h w inv = (
    length-set r a v ∙ inv.0,
    mask_set r a v (let z = inv.0 in omega arith) ∙ fun_ext (λ x.
        by (eqb x a)
        (λ q. let e = eqb-true x a q in rw (q, lt-ltb x (a + 1) (omega arith)) (w ∙ ap new (sym e)))
        (λ q. rw q (ap (λ (g : ℕ → ℕ). g x) inv.1 ∙ ap (λ c. cond c (new x) (old x)) (ltb_step x a (eqb-false x a q))))),
  )

  pub lined_done : (r : List ℕ) (a : ℕ) → edge ≤ a → a ≤ edge → ((x : ℕ) → edge ≤ x → new x ≡ old x) → Lined a r → mask r ≡ new
  lined_done r a h k f inv =
      let e : a ≡ edge = omega arith in
      inv.1 ∙ fun_ext (λ x. rw e (by (ltb x edge) (λ q. rw q) (λ q. rw q (sym (f x (ltb-false x edge q))))))

pub is_beyond : (p : Place) (a : ℕ) → index p < edge → edge ≤ a → is (ref p) a ≡ false
is_beyond (At b) a h k = ne_eqb a b (λ e. omega arith)
is_beyond Null a h k = refl

pub mask_beyond : (l : List ℕ) (a : ℕ) → length l ≡ edge → edge ≤ a → mask l a ≡ 0
unfolding mask
mask_beyond l a e h = past l a (let z = e in omega arith)
  where
    past : (l : List ℕ) (a : ℕ) → length l ≤ a → get_or l a 0 ≡ 0
    past [] a h = refl
    past (x ∷ l) zero h = absurd (omega arith)
    past (x ∷ l) (suc a) h = past l a (omega arith)

pub moved_beyond : (p : Place) (l : List ℕ) (x a : ℕ) → length l ≡ edge → index p < edge → edge ≤ a → put x (is (ref p) a) (mask l a) ≡ mask l a
moved_beyond p l x a e h k = rw (is_beyond p a h k, mask_beyond l a e k) (put_none x)

-- the place that a search found
abbrev pub placed : Option ℕ → Place
placed None = Null
placed (Some a) = At a

pub first_at_position : (p : ℕ → Bool) (l : List ℕ) (n : ℕ) (r : Place) → n ≤ length l → r ≡ placed (position p (take n l)) → ref r ≡ first n (λ a. p (mask l a))
unfolding mask
first_at_position p l n r h e =
    let xs = take n l in
    let i = position_or_len p xs in
    let w : length xs ≡ n = length-take-le n l h in
    let before : (k : ℕ) → k < n → k < i → p (get_or l k 0) ≡ false =
    λ k m o. ap p (sym (get_or-take n l k 0 m)) ∙ fails_before_first p xs k 0 o in
    by (ltb i (length xs))
    (λ q.
    let f : position p xs ≡ Some i = rw q in
    let y = position-Some p xs i 0 f in
    let m : i < n = omega (arith, y.0) in
    ap ref (e ∙ ap placed f)
    ∙ sym (first_hit (λ a. p (get_or l a 0)) n i m (none_any i (λ a. p (get_or l a 0)) (λ k o t. clash t (before k (omega arith) o))) (ap p (sym (get_or-take n l i 0 m)) ∙ y.1)))
    (λ q.
    let f : position p xs ≡ None = rw q in
    let m = ltb-false i (length xs) q in
    ap ref (e ∙ ap placed f)
    ∙ sym (first_none (λ a. p (get_or l a 0)) n (none_any n (λ a. p (get_or l a 0)) (λ k o t. clash t (before k o (omega arith))))))
