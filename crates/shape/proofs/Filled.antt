-- A row of the matrix written as a slice: filled with zeros, or a copy of another row.
use Prim.Native.Nat.{ℕ, ◌+◌, ◌-◌, ◌*◌, ◌<◌, ◌≤◌}
use mathlib.Core.Bool.{Bool, false, cond, ◌&&◌}
use mathlib.Core.List.{List, ◌++◌, append_assoc}
use mathlib.Core.Path.{◌≡◌, refl, sym, ap, subst, ◌∙◌, fun_ext}
use native.Mathlib.Omega.{arith}
use lib.Dec.{eqb, ltb}
use lib.ListN.{get_or, length, replicate, take, drop, length-drop}
use lib.Seq.{paste, drop-drop, get_or-take, get_or-drop, length-take-le}
use borrow.Author.Tests.{eqb-true, eqb-false, ltb-true, ltb-false, le-ltb}
use borrow.Rule.Slice.PartMut.{put_mid, mid_of}
use Rattle.std.proofs.Common.{rules}
use Rattle.std.proofs.lemmas.List.{places}
use Rattle.std.proofs.lemmas.Slice.{overwrites}
use Rattle.model.specs.Truth.{Truth, 𝟘, truth}
use Rattle.model.specs.Step.{edge}
use Rattle.model.proofs.Bools.{by, clash, and_left, and_right, and_both, and_false, cond_same}
use Rattle.shape.specs.Meaning.{cells, grid, row, Matrix}
use Rattle.shape.proofs.Grid.{grid_at, grid_low, grid_right}
use Rattle.shape.proofs.Entries.{zeros}

-- a matrix says what its entries say
pub grid_ext : (l : List ℕ) (g : ℕ → ℕ → Truth) → ((a b : ℕ) → a < edge → b < edge → truth (get_or l (a * edge + b) 0) ≡ g a b)
    → ((a b : ℕ) → edge ≤ a → g a b ≡ 𝟘) → ((a b : ℕ) → edge ≤ b → g a b ≡ 𝟘) → grid l ≡ g
grid_ext l g f low right =
    fun_ext
    (λ a.
    fun_ext
    (λ b.
    by (ltb a edge)
    (λ q.
    by (ltb b edge)
    (λ p. sym (grid_at l a b (ltb-true a edge q) (ltb-true b edge p)) ∙ f a b (ltb-true a edge q) (ltb-true b edge p))
    (λ p. sym (grid_right l a b (ltb-false b edge p)) ∙ sym (right a b (ltb-false b edge p))))
    (λ q. sym (grid_low l a b (ltb-false a edge q)) ∙ sym (low a b (ltb-false a edge q)))))

before : (l z : List ℕ) (at k i : ℕ) → i < at → at ≤ length l → get_or (put_mid at k l z) i 0 ≡ get_or l i 0
before l z at k i h m = search (rules, places)

inside : (l z : List ℕ) (at k i : ℕ) → at ≤ i → i < at + k → at ≤ length l → length z ≡ k → get_or (put_mid at k l z) i 0 ≡ get_or z (i - at) 0
inside l z at k i h m n o = search (rules, places)

after : (l z : List ℕ) (at k i : ℕ) → at + k ≤ i → at ≤ length l → length z ≡ k → get_or (put_mid at k l z) i 0 ≡ get_or l i 0
after l z at k i h m n = search (rules, places)

-- z stands in row u from its left edge on, and says f
module _ (l z : List ℕ) (u k : ℕ) (f : ℕ → Truth) (m : length l ≡ cells) (h : u < edge) (e : k ≤ edge) (y : length z ≡ k)
    (w : (b : ℕ) → b < k → truth (get_or z b 0) ≡ f b) where
  abbrev put : List ℕ
  put = put_mid (u * edge) k l z

  put_at : (a b : ℕ) → a < edge → b < edge → truth (get_or put (a * edge + b) 0) ≡ cond (eqb a u && ltb b k) (f b) (grid l a b)
  put_at a b i j =
      by (eqb a u && ltb b k)
      (λ q.
      let c = eqb-true a u (and_left (eqb a u) (ltb b k) q) in
      let o = ltb-true b k (and_right (eqb a u) (ltb b k) q) in
      let d : a * edge + b - u * edge ≡ b = omega arith in
      rw q (ap truth (inside l z (u * edge) k (a * edge + b) (omega arith) (omega arith) (omega arith) y ∙ ap (λ t. get_or z t 0) d) ∙ w b o))
      (λ q.
      rw q
      (by (ltb (a * edge + b) (u * edge))
      (λ p. let d = ltb-true (a * edge + b) (u * edge) p in ap truth (before l z (u * edge) k (a * edge + b) d (omega arith)))
      (λ p.
      let d = ltb-false (a * edge + b) (u * edge) p in
      ap truth (after l z (u * edge) k (a * edge + b) (past a b j q d) (omega arith) y))
      ∙ grid_at l a b i j))
    where
      past : (a b : ℕ) → b < edge → (eqb a u && ltb b k) ≡ false → u * edge ≤ a * edge + b → u * edge + k ≤ a * edge + b
      past a b j q d =
          by (eqb a u)
          (λ p.
          let c = eqb-true a u p in
          by (ltb b k) (λ o. clash (and_both p o) q) (λ o. let n = ltb-false b k o in omega arith))
          (λ p. let c = eqb-false a u p in omega arith)

  pub part_put : grid put ≡ (λ a b. cond (eqb a u && ltb b k) (f b) (grid l a b))
  part_put =
      grid_ext put (λ a b. cond (eqb a u && ltb b k) (f b) (grid l a b)) put_at
      (λ a b i.
      by (eqb a u) (λ q. let c = eqb-true a u q in absurd (omega arith)) (λ q. rw q (sym (grid_low l a b i))))
      (λ a b i. rw (le-ltb b k (omega arith), and_false (eqb a u) refl) (sym (grid_right l a b i)))

  pub put_whole : length put ≡ cells
  put_whole = search (rules, overwrites)

  row_put : k ≡ edge → ((b : ℕ) → edge ≤ b → f b ≡ 𝟘) → Matrix put (row u f (grid l))
  row_put o v = record {
    whole = put_whole;
    says =
        part_put
        ∙ fun_ext
        (λ a.
        fun_ext
        (λ b.
        by (ltb b k)
        (λ q. by (eqb a u) (λ p. rw (p, q)) (λ p. rw p))
        (λ q.
        let n = ltb-false b k q in
        ap (λ (c : Bool). cond c (f b) (grid l a b)) (and_false (eqb a u) q)
        ∙ sym (grid_right l a b (omega arith))
        ∙ sym (cond_same (eqb a u) (v b (omega arith)) (sym (grid_right l a b (omega arith)))))));
  }

pub row_filled : (l z : List ℕ) (u k : ℕ) → length l ≡ cells → u < edge → k ≡ edge → z ≡ replicate (length (mid_of (u * edge) k l)) 0 → Matrix (put_mid (u * edge) k l z) (row u (λ b. 𝟘) (grid l))
row_filled l z u k m h e f =
    row_put l z u k (λ b. 𝟘) m h (omega arith) (search (rules, overwrites))
    (λ b i. ap truth (ap (λ t. get_or t b 0) f ∙ zeros (length (mid_of (u * edge) k l)) b))
    e (λ b i. refl)

pub row_copied : (l : List ℕ) (n v k : ℕ) → length l ≡ cells → n < edge → v < edge → k ≡ edge → Matrix (paste l (n * edge) (drop (v * edge) l) k) (row n (grid l v) (grid l))
row_copied l n v k m h i e =
    let z = take k (drop (v * edge) l) in
    subst (λ (t : List ℕ). Matrix t (row n (grid l v) (grid l)))
    (ap (λ (t : List ℕ). take (n * edge) l ++ (z ++ t)) (drop-drop k (n * edge) l)
    ∙ sym (append_assoc (take (n * edge) l) z (drop (n * edge + k) l)))
    (row_put l z n k (grid l v) m h (omega arith) (length-take-le k (drop (v * edge) l) (omega (arith, length-drop (v * edge) l)))
    (λ b j. ap truth (get_or-take k (drop (v * edge) l) b 0 (omega arith) ∙ get_or-drop (v * edge) l b 0) ∙ grid_at l v b i (omega arith))
    e (λ b j. sym (grid_right l v b j)))
