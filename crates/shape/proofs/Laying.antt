-- Bytes laid over a buffer: none, one, and more after those that stand; and lists of parts of one length.
use Prim.Native.Nat.{ℕ, zero, suc, min, ◌+◌, ◌*◌, ◌/◌, ◌%◌, ◌<◌, ◌≤◌}
use mathlib.Core.Bool.{Bool, cond}
use mathlib.Core.List.{List, [], ◌∷◌, ◌++◌, append_assoc}
use mathlib.Core.Logic.{◌≢◌}
use mathlib.Core.Path.{◌≡◌, refl, sym, ap, ap₂, ◌∙◌}
use native.Mathlib.Omega.{arith}
use native.Mathlib.Nat.{add-zero, zero-add, mul-zero}
use native.Mathlib.Numerals.{add-one}
use lib.Dec.{eqb}
use borrow.Author.Tests.{eqb-true, eqb-false}
use lib.ListN.{length, get_or, set, take, drop, length-append, take-append-drop}
use lib.Seq.{length-take-le, length_front, set_split, take_at, drop-append-add, drop-drop}
use Rattle.model.specs.Truth.{truth, code}
use Rattle.model.specs.Finite.{each}
use Rattle.model.specs.Step.{edge}
use Rattle.model.specs.Shape.{Shape}
use Rattle.model.specs.Claim.{bytes, record_of}
use Rattle.model.proofs.Bools.{by}
use Rattle.shape.specs.Meaning.{made, mask, shared, summary, grid}
use Rattle.shape.specs.Records.{sized}
use Rattle.shape.specs.Writing.{laid, individual_bytes, link_byte}
use Rattle.shape.proofs.Grid.{grid_at}
use Rattle.shape.proofs.Entries.{mask_at, shared_at, summary_at}
use Rattle.shape.proofs.Recorded.{step_next}

-- ---- one buffer

pub laid_none : (out : List ℕ) (at : ℕ) → out ≡ laid out at []
unfolding laid
laid_none out at = rw (add-zero at) (sym (take-append-drop at out))

pub laid_one : (out : List ℕ) (at v : ℕ) → at < length out → set out at v ≡ laid out at (v ∷ [])
unfolding laid
laid_one out at v h = set_split out at v h ∙ ap (λ (n : ℕ). take at out ++ (v ∷ drop n out)) (sym (add-one at))

pub laid_front : (out q : List ℕ) → laid out 0 q ≡ q ++ drop (length q) out
unfolding laid
laid_front out q = ap (λ (n : ℕ). q ++ drop n out) (zero-add (length q))

module _ (out : List ℕ) (at : ℕ) (q : List ℕ) (h : at + length q ≤ length out) where
  abbrev head : List ℕ
  head = take at out ++ q

  head_length : length head ≡ at + length q
  head_length =
      length-append (take at out) q ∙ ap (λ (n : ℕ). n + length q) (length-take-le at out (omega arith))

  as_head : laid out at q ≡ head ++ drop (at + length q) out
  unfolding laid
  as_head = sym (append_assoc (take at out) q (drop (at + length q) out))

  pub laid_length : length (laid out at q) ≡ length out
  laid_length =
      ap length as_head
      ∙ length_front out head (at + length q) (head_length ∙ sym (length-take-le (at + length q) out h))

  -- more bytes where those end
  pub laid_more : (b : ℕ) (r : List ℕ) → b ≡ at + length q → laid (laid out at q) b r ≡ laid out at (q ++ r)
  unfolding laid
  laid_more b r e =
      ap (λ (n : ℕ). laid (laid out at q) n r) e
      ∙ ap (λ (l : List ℕ). take (at + length q) l ++ (r ++ drop (at + length q + length r) l)) as_head
      ∙ ap₂ (λ (x y : List ℕ). x ++ (r ++ y))
      (take_at head (drop (at + length q) out) (at + length q) head_length)
      (ap (λ (n : ℕ). drop (n + length r) (head ++ drop (at + length q) out)) (sym head_length)
      ∙ drop-append-add head (drop (at + length q) out) (length r)
      ∙ drop-drop (length r) (at + length q) out)
      ∙ append_assoc (take at out) q (r ++ drop (at + length q + length r) out)
      ∙ ap (λ (l : List ℕ). take at out ++ l) (sym (append_assoc q r (drop (at + length q + length r) out)))
      ∙ ap (λ (n : ℕ). take at out ++ ((q ++ r) ++ drop n out)) end
    where
      end : at + length q + length r ≡ at + length (q ++ r)
      end = let z = length-append q r in omega arith

  -- one byte more
  pub laid_push : (b v : ℕ) → b ≡ at + length q → b < length out → set (laid out at q) b v ≡ laid out at (q ++ (v ∷ []))
  laid_push b v e k =
      laid_one (laid out at q) b v (let z = laid_length in omega arith) ∙ laid_more b (v ∷ []) e

pub laid_two : (out : List ℕ) (at x y : ℕ) → at + 2 ≤ length out → set (set out at x) (at + 1) y ≡ laid out at (x ∷ y ∷ [])
laid_two out at x y h =
    ap (λ (l : List ℕ). set l (at + 1) y) (laid_one out at x (omega arith))
    ∙ laid_push out at (x ∷ []) (omega arith) (at + 1) y refl (omega arith)

pub laid_three : (out : List ℕ) (at x y z : ℕ) → at + 3 ≤ length out → set (set (set out at x) (at + 1) y) (at + 2) z ≡ laid out at (x ∷ y ∷ z ∷ [])
laid_three out at x y z h =
    ap (λ (l : List ℕ). set l (at + 2) z) (laid_two out at x y (omega arith))
    ∙ laid_push out at (x ∷ y ∷ []) (omega arith) (at + 2) z refl (omega arith)

-- ---- parts of one length

module _ (f : ℕ → List ℕ) (m : ℕ) (g : (a : ℕ) → length (f a) ≡ m) where
  pub each_length : (n : ℕ) → length (each n f) ≡ m * n
  each_length zero = sym (mul-zero m)
  each_length (suc n) =
      length-append (each n f) (f n)
      ∙ ap₂ (λ (x y : ℕ). x + y) (each_length n) (g n)
      ∙ sym (step_next m n) ∙ ap (λ (x : ℕ). m * x) (add-one n)

  -- a part more, after n of them
  pub each_next : (out : List ℕ) (at b n : ℕ) (l : List ℕ) → at + m * n + m ≤ length out → b ≡ at + m * n → l ≡ laid out at (each n f) → laid l b (f n) ≡ laid out at (each (n + 1) f)
  each_next out at b n l h e w =
      ap (λ (l : List ℕ). laid l b (f n)) w
      ∙ laid_more out at (each n f) (let z = each_length n in omega arith) b (f n) (e ∙ ap (λ (x : ℕ). at + x) (sym (each_length n)))
      ∙ ap (λ (x : ℕ). laid out at (each x f)) (sym (add-one n))

-- ---- the parts of a record

pub bytes_length : (w v : ℕ) → length (bytes w v) ≡ w
bytes_length zero v = refl
bytes_length (suc w) v = ap suc (bytes_length w (v / 256))

pub individual_length : (w : ℕ) (m f : List ℕ) (a : ℕ) → length (individual_bytes w m f a) ≡ w + 1
unfolding individual_bytes
individual_length w m f a =
    length-append (bytes w (mask m a)) ((cond (shared f a) 1 0 + 2 * cond (summary f a) 1 0) ∷ [])
    ∙ ap (λ (x : ℕ). x + 1) (bytes_length w (mask m a))

pub link_length : (l : List ℕ) (a b : ℕ) → length (link_byte l a b) ≡ 1
unfolding link_byte
link_length l a b = refl

-- the two flags of a byte
pub flags_are : (x : ℕ) → x % 4 ≡ cond (eqb (x % 2) 1) 1 0 + 2 * cond (eqb (x / 2 % 2) 1) 1 0
flags_are x =
    by (eqb (x % 2) 1)
    (λ q.
    let e = eqb-true (x % 2) 1 q in
    by (eqb (x / 2 % 2) 1)
    (λ y. let d = eqb-true (x / 2 % 2) 1 y in rw (q, y) (omega arith))
    (λ y. let d : x / 2 % 2 ≢ 1 = eqb-false (x / 2 % 2) 1 y in rw (q, y) (omega arith)))
    (λ q.
    let e : x % 2 ≢ 1 = eqb-false (x % 2) 1 q in
    by (eqb (x / 2 % 2) 1)
    (λ y. let d = eqb-true (x / 2 % 2) 1 y in rw (q, y) (omega arith))
    (λ y. let d : x / 2 % 2 ≢ 1 = eqb-false (x / 2 % 2) 1 y in rw (q, y) (omega arith)))

pub individual_is : (w : ℕ) (m f : List ℕ) (a v g : ℕ) → v ≡ get_or m a 0 → g ≡ get_or f a 0 → bytes w v ++ ((g % 4) ∷ []) ≡ individual_bytes w m f a
unfolding individual_bytes
individual_is w m f a v g d e =
    ap₂ (λ (x y : ℕ). bytes w x ++ (y ∷ []))
    (d ∙ mask_at m a)
    (ap (λ (x : ℕ). x % 4) e ∙ flags_are (get_or f a 0)
    ∙ ap₂ (λ (b c : Bool). cond b 1 0 + 2 * cond c 1 0) (sym (shared_at f a)) (sym (summary_at f a)))

pub code_is : (b : ℕ) → min b 2 ≡ code (truth b)
code_is zero = refl
code_is (suc zero) = refl
code_is (suc (suc b)) = omega arith

pub link_is : (l : List ℕ) (a b v : ℕ) → a < edge → b < edge → v ≡ code (truth (get_or l (a * edge + b) 0)) → v ∷ [] ≡ link_byte l a b
unfolding link_byte
link_is l a b v h k e = ap (λ (x : ℕ). x ∷ []) (e ∙ ap code (grid_at l a b h k))

-- one link more of row a
pub row_next : (l : List ℕ) (a : ℕ) (out₀ out : List ℕ) (at b v : ℕ) → at + b < length out₀ → length out ≡ length out₀ → a < edge → b < edge → v ≡ code (truth (get_or l (a * edge + b) 0)) → out ≡ laid out₀ at (each b (link_byte l a)) → set out (at + b) v ≡ laid out₀ at (each (b + 1) (link_byte l a))
row_next l a out₀ out at b v h z i k e w =
    laid_one out (at + b) v (omega arith)
    ∙ ap (λ (q : List ℕ). laid out (at + b) q) (link_is l a b v i k e)
    ∙ each_next (link_byte l a) 1 (link_length l a) out₀ at (at + b) b out (omega arith) (omega arith) w

pub row_length : (l : List ℕ) (k a : ℕ) → length (each k (link_byte l a)) ≡ k
row_length l k a = each_length (link_byte l a) 1 (link_length l a) k ∙ (let z : 1 * k ≡ k = omega arith in z)

-- ---- the whole record

module _ (masks flags links : List ℕ) (w p k : ℕ) where
  abbrev written : Shape
  written = made k (mask masks) (summary flags) (shared flags) (grid links)

  abbrev heads : List ℕ
  heads = each k (individual_bytes w masks flags)

  abbrev tails : List ℕ
  tails = each k (λ a. each k (link_byte links a))

  heads_length : length heads ≡ (w + 1) * k
  heads_length = each_length (individual_bytes w masks flags) (w + 1) (individual_length w masks flags) k

  tails_length : length tails ≡ k * k
  tails_length = each_length (λ a. each k (link_byte links a)) k (row_length links k) k

  as_record : (p ∷ k ∷ heads) ++ tails ≡ record_of (sized w) p written
  unfolding individual_bytes link_byte
  as_record = refl

  pub written_length : 2 + (w + 1) * k + k * k ≡ length (record_of (sized w) p written)
  written_length =
      (let z = heads_length in
      let y = tails_length in
      let x = length-append (p ∷ k ∷ heads) tails in
      let v : length (p ∷ k ∷ heads) ≡ 2 + length heads = omega arith in
      let u : 2 + (w + 1) * k + k * k ≡ length ((p ∷ k ∷ heads) ++ tails) = omega arith in
      u)
      ∙ ap length as_record

  pub written_is : (out out1 out2 : List ℕ) → 2 + (w + 1) * k + k * k ≤ length out
      → out1 ≡ laid (set (set out 0 p) 1 k) 2 heads → out2 ≡ laid out1 (2 + (w + 1) * k) tails
      → out2 ≡ record_of (sized w) p written ++ drop (2 + (w + 1) * k + k * k) out
  written_is out out1 out2 h a b =
      b
      ∙ ap (λ (l : List ℕ). laid l (2 + (w + 1) * k) tails)
      (a
      ∙ ap (λ (l : List ℕ). laid l 2 heads) (laid_two out 0 p k (omega arith))
      ∙ laid_more out 0 (p ∷ k ∷ []) (omega arith) 2 heads refl)
      ∙ laid_more out 0 (p ∷ k ∷ heads) (let z = heads_length in omega arith) (2 + (w + 1) * k) tails (let z = heads_length in omega arith)
      ∙ laid_front out ((p ∷ k ∷ heads) ++ tails)
      ∙ ap₂ (λ (l : List ℕ) (n : ℕ). l ++ drop n out) as_record (ap length as_record ∙ sym written_length)
