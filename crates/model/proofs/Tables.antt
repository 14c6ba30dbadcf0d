-- Tables of values that are stored one after the other into a buffer.
use Prim.Native.Nat.{ℕ, zero, suc, ◌+◌, ◌<◌}
use mathlib.Core.List.{List, [], ◌∷◌, ◌++◌, append_assoc}
use mathlib.Core.Path.{◌≡◌, refl, sym, ap, ◌∙◌}
use native.Mathlib.Nat.{add-zero}
use native.Mathlib.Numerals.{add-one}
use native.Mathlib.Omega.{arith}
use lib.ListN.{length, get_or, set, drop, length-append}
use lib.Seq.{drop-cons, set_at, get_or-append-add}
use Rattle.model.specs.Verdict.{table}
use Rattle.model.proofs.Bools.{top_or_below}

pub table_length : (g : ℕ → ℕ) (n : ℕ) → length (table g n) ≡ n
unfolding table
table_length g zero = refl
table_length g (suc n) = length-append (table g n) (g n ∷ []) ∙ rw (table_length g n) (add-one n)

pub table_none : (g : ℕ → ℕ) (l : List ℕ) → l ≡ table g 0 ++ drop 0 l
unfolding table
table_none g l = refl

-- a store at n makes one more
pub table_store : (g : ℕ → ℕ) (l : List ℕ) (n : ℕ) → n < length l → set (table g n ++ drop n l) n (g n) ≡ table g (n + 1) ++ drop (n + 1) l
unfolding table
table_store g l n h =
    rw (drop-cons l n 0 h, add-one)
    (set_at (table g n) (get_or l n 0) (drop (suc n) l) (g n) n (table_length g n) ∙ sym (append_assoc (table g n) (g n ∷ []) (drop (suc n) l)))

pub table_at : (g : ℕ → ℕ) (n : ℕ) (l : List ℕ) (i : ℕ) → i < n → get_or (table g n ++ l) i 0 ≡ g i
unfolding table
table_at g zero l i h = absurd (omega arith)
table_at g (suc n) l i h =
    rw (append_assoc (table g n) (g n ∷ []) l)
    (top_or_below n i h
    (λ e.
    ap (λ (x : ℕ). get_or (table g n ++ (g n ∷ l)) x 0) (e ∙ sym (table_length g n) ∙ sym (add-zero (length (table g n))))
    ∙ get_or-append-add (table g n) (g n ∷ l) 0 0 ∙ ap g (sym e))
    (λ k. table_at g n (g n ∷ l) i k))
