-- The matrix of link values: one value set, and loops down a column.
use Prim.Native.Nat.{ℕ, ◌+◌, ◌*◌, ◌<◌, ◌≤◌}
use mathlib.Core.Bool.{Bool, true, false, cond, ◌&&◌}
use mathlib.Core.List.{List}
use mathlib.Core.Logic.{◌≢◌}
use mathlib.Core.Path.{◌≡◌, refl, sym, ap, ap₂, ◌∙◌, fun_ext}
use native.Mathlib.Omega.{arith}
use lib.Dec.{eqb, ltb}
use lib.ListN.{get_or, set, length, length-set}
use lib.Seq.{get_or-set_same, get_or-set_other}
use borrow.Author.Tests.{eqb-true, eqb-false, eq-eqb, ne_eqb, ltb-true, ltb-false, lt-ltb, le-ltb}
use Rattle.model.specs.Truth.{Truth, 𝟘, 𝟙, truth}
use Rattle.model.specs.Step.{edge, copy, from_u}
use Rattle.model.proofs.Bools.{by, clash, and_left, and_right, and_both, and_false}
use Rattle.shape.specs.Meaning.{cells, grid, row, column}
use Rattle.shape.proofs.Tests.{ltb_step}

-- one value changes
unfoldable pub cell : ℕ → ℕ → Truth → (ℕ → ℕ → Truth) → ℕ → ℕ → Truth
cell a t v g x b = cond (eqb x a && eqb b t) v (g x b)

pub grid_at : (l : List ℕ) (a b : ℕ) → a < edge → b < edge → truth (get_or l (a * edge + b) 0) ≡ grid l a b
unfolding grid
grid_at l a b h k = rw (lt-ltb a edge h, lt-ltb b edge k)

pub grid_low : (l : List ℕ) (a b : ℕ) → edge ≤ a → 𝟘 ≡ grid l a b
unfolding grid
grid_low l a b h = rw (le-ltb a edge h)

pub grid_right : (l : List ℕ) (a b : ℕ) → edge ≤ b → 𝟘 ≡ grid l a b
unfolding grid
grid_right l a b h = rw (and_false (ltb a edge) (le-ltb b edge h))

pub grid_set : (l : List ℕ) (a t v : ℕ) → length l ≡ cells → a < edge → t < edge → grid (set l (a * edge + t) v) ≡ cell a t (truth v) (grid l)
unfolding grid cell
grid_set l a t v z h k = fun_ext (λ x. fun_ext (λ b. at x b))
  where
    at : (x b : ℕ) → cond (ltb x edge && ltb b edge) (truth (get_or (set l (a * edge + t) v) (x * edge + b) 0)) 𝟘 ≡ cond (eqb x a && eqb b t) (truth v) (cond (ltb x edge && ltb b edge) (truth (get_or l (x * edge + b) 0)) 𝟘)
    at x b =
        by (ltb x edge && ltb b edge)
        (λ q.
        let lx = ltb-true x edge (and_left (ltb x edge) (ltb b edge) q) in
        let lb = ltb-true b edge (and_right (ltb x edge) (ltb b edge) q) in
        rw q (by (eqb x a && eqb b t)
        (λ y.
        let ex = eqb-true x a (and_left (eqb x a) (eqb b t) y) in
        let eb = eqb-true b t (and_right (eqb x a) (eqb b t) y) in
        rw (y, ex, eb, get_or-set_same l (a * edge + t) v 0 (omega arith)))
        (λ y. rw y (ap truth (get_or-set_other l (a * edge + t) (x * edge + b) v 0 (λ w.
        clash (and_both (eq-eqb x a (omega arith)) (eq-eqb b t (omega arith))) y))))))
        (λ q. rw q (by (eqb x a && eqb b t)
        (λ y. clash (and_both (lt-ltb x edge (let e = eqb-true x a (and_left (eqb x a) (eqb b t) y) in omega arith)) (lt-ltb b edge (let e = eqb-true b t (and_right (eqb x a) (eqb b t) y) in omega arith))) q)
        (λ y. rw y)))

-- ---- loops over the matrix: where d says so the values are new, elsewhere old
abbrev pub mixed : (ℕ → ℕ → Bool) → (ℕ → ℕ → Truth) → (ℕ → ℕ → Truth) → ℕ → ℕ → Truth
mixed d new old x b = cond (d x b) (new x b) (old x b)

-- one store more
pub mixed_next : (d e : ℕ → ℕ → Bool) (new old : ℕ → ℕ → Truth) (r : List ℕ) (a t v : ℕ)
    → length r ≡ cells → a < edge → t < edge → grid r ≡ mixed d new old → truth v ≡ new a t → e a t ≡ true
    → ((x b : ℕ) → ((x ≡ a) × (b ≡ t) → ⊥) → cond (d x b) (new x b) (old x b) ≡ cond (e x b) (new x b) (old x b))
    → grid (set r (a * edge + t) v) ≡ mixed e new old
unfolding cell
mixed_next d e new old r a t v z h k inv w q f =
    grid_set r a t v z h k ∙ ap₂ (cell a t) w inv ∙ fun_ext (λ x. fun_ext (λ b. go x b))
  where
    go : (x b : ℕ) → cond (eqb x a && eqb b t) (new a t) (cond (d x b) (new x b) (old x b)) ≡ cond (e x b) (new x b) (old x b)
    go x b =
        by (eqb x a && eqb b t)
        (λ y.
        let ex = eqb-true x a (and_left (eqb x a) (eqb b t) y) in
        let eb = eqb-true b t (and_right (eqb x a) (eqb b t) y) in
        rw (y, ex, eb, q))
        (λ y. rw y (f x b (λ p. clash (and_both (eq-eqb x a p.0) (eq-eqb b t p.1)) y)))

same_both : (b c : Bool) {x y : Truth} → x ≡ y → cond b x y ≡ cond c x y
same_both true true e = refl
same_both true false e = e
same_both false true e = sym e
same_both false false e = refl

-- a loop down column t; the rows above a are done
module _ (t : ℕ) (new old : ℕ → ℕ → Truth) where
  abbrev pub Down : ℕ → List ℕ → Type 0
  Down a r = (length r ≡ cells) × (grid r ≡ mixed (λ x b. ltb x a) new old)

  pub down_read : (r : List ℕ) (a b : ℕ) → a < edge → b < edge → Down a r → truth (get_or r (a * edge + b) 0) ≡ old a b
  down_read r a b h k inv = grid_at r a b h k ∙ ap (λ g. g a b) inv.1 ∙ rw (le-ltb a a (omega arith))

  pub down_done : (r : List ℕ) (a : ℕ) → edge ≤ a → a ≤ edge → ((x b : ℕ) → edge ≤ x → new x b ≡ old x b) → Down a r → grid r ≡ new
  down_done r a h k f inv =
      let e : a ≡ edge = omega arith in
      inv.1 ∙ fun_ext (λ x. fun_ext (λ b. rw e (by (ltb x edge) (λ q. rw q) (λ q. rw q (sym (f x b (ltb-false x edge q)))))))

  pub down_next : (r : List ℕ) (a v : ℕ) → a < edge → t < edge → ((x b : ℕ) → b ≢ t → new x b ≡ old x b) → truth v ≡ new a t → Down a r → Down (a + 1) (set r (a * edge + t) v)
  down_next r a v h k f w inv = (
    length-set r (a * edge + t) v ∙ inv.0,
    mixed_next (λ x b. ltb x a) (λ x b. ltb x (a + 1)) new old r a t v inv.0 h k inv.1 w (lt-ltb a (a + 1) (omega arith))
        (λ x b n.
        by (eqb b t)
        (λ q. ap (λ c. cond c (new x b) (old x b)) (ltb_step x a (λ e. n (e, eqb-true b t q))))
        (λ q. same_both (ltb x a) (ltb x (a + 1)) (f x b (eqb-false b t q)))),
  )

pub column_else : (t : ℕ) (f : ℕ → Truth → Truth) (g : ℕ → ℕ → Truth) (x b : ℕ) → b ≢ t → column t f g x b ≡ g x b
column_else t f g x b d = rw (ne_eqb b t d)

pub column_here : (t : ℕ) (f : ℕ → Truth → Truth) (g : ℕ → ℕ → Truth) (a : ℕ) → column t f g a t ≡ f a (g a t)
column_here t f g a = rw (eq-eqb t t refl)

pub column_beyond : (t : ℕ) (f : ℕ → Truth → Truth) (l : List ℕ) (x b : ℕ) → f x 𝟘 ≡ 𝟘 → edge ≤ x → column t f (grid l) x b ≡ grid l x b
column_beyond t f l x b z h =
    let e = grid_low l x b h in
    by (eqb b t) (λ q. rw q (rw (← e) z)) (λ q. rw q)

pub copied_both : (n v : ℕ) (g : ℕ → ℕ → Truth) → column n (λ a w. row n (g v) g a v) (row n (g v) g) ≡ (λ a b. g (copy n v a) (copy n v b))
copied_both n v g = fun_ext (λ a. fun_ext (λ b.
    by (eqb b n)
    (λ q. rw q (by (eqb a n) (λ y. rw y) (λ y. rw y)))
    (λ q. rw q (by (eqb a n) (λ y. rw y) (λ y. rw y)))))

pub one_in_row : (u v : ℕ) (g : ℕ → ℕ → Truth) → column v (from_u u 𝟙) (row u (λ b. 𝟘) g) ≡ row u (λ b. cond (eqb b v) 𝟙 𝟘) g
one_in_row u v g = fun_ext (λ x. fun_ext (λ b.
    by (eqb x u) (λ q. rw q (by (eqb b v) (λ y. rw y) (λ y. rw y))) (λ q. rw q (by (eqb b v) (λ y. rw y) (λ y. rw y)))))

-- one link is set
pub cell_into : (u t : ℕ) (v : Truth) (g : ℕ → ℕ → Truth) → cell u t v g ≡ column t (from_u u v) g
unfolding cell
cell_into u t v g = fun_ext (λ x. fun_ext (λ b.
    by (eqb b t)
    (λ q. rw q (by (eqb x u) (λ y. rw y) (λ y. rw y)))
    (λ q. rw q (by (eqb x u) (λ y. rw y) (λ y. rw y)))))

-- one link is stored
pub link_set : (l : List ℕ) (u t v : ℕ) → length l ≡ cells → u < edge → t < edge → grid (set l (u * edge + t) v) ≡ column t (from_u u (truth v)) (grid l)
link_set l u t v z h k = grid_set l u t v z h k ∙ cell_into u t (truth v) (grid l)

pub column_same : (t : ℕ) (g : ℕ → ℕ → Truth) → g ≡ column t (λ a v. v) g
column_same t g = fun_ext (λ a. fun_ext (λ b. by (eqb b t) (λ q. rw q) (λ q. rw q)))
