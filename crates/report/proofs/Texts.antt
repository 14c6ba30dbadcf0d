-- What is written piece by piece: all of it, or a front of it where a piece fails.
use Rattle.std.proofs.Common.{◌≡◌, ℕ, zero, suc, ◌+◌, ◌≤◌, List, ◌++◌, codes, decimal, length, length-append, take, add-one, refl, sym, subst, arith}
use Rattle.std.proofs.Math.Seq.{take-append-add}
use Rattle.std.proofs.lemmas.List.{take-append-le}
use Rattle.std.specs.Prelude.{Option, Result, Ok, Err, OnErr}
use Rattle.std.specs.Io.KnownBytes.{Appends}
use Rattle.std.proofs.KnownBytes.{Appends-trans}
use Rattle.report.specs.Text.{AppendsFront, heading, piece, spaced}

-- a front of the text is one of a longer text
pub front_more : {a b : Option (List ℕ)} {xs : List ℕ} (ys : List ℕ) → AppendsFront a b xs → AppendsFront a b (xs ++ ys)
front_more {a} {b} {xs} ys p =
    let low : p.many ≤ length xs = omega arith in
    record {
      many = p.many;
      short = omega (arith, length-append xs ys);
      front = subst (Appends a b) (sym (take-append-le p.many xs ys low)) p.front;
    }

-- all of a text, and then a front of the next
pub front_then : (a : Option (List ℕ)) {b c : Option (List ℕ)} (xs : List ℕ) {ys : List ℕ} → Appends a b xs → AppendsFront b c ys → AppendsFront a c (xs ++ ys)
front_then a {b} {c} xs {ys} p q = record {
  many = length xs + q.many;
  short = omega (arith, length-append xs ys);
  front = subst (Appends a c) (sym (take-append-add xs ys q.many)) (Appends-trans a b c xs (take q.many ys) p q.front);
}

pub on_err : {T E P : Type 0} (r : Result T E) → P → OnErr r P
on_err (Ok x) p = tt
on_err (Err e) p = p

pub refused : (n : ℕ) → (n ≡ 0 → ⊥) → heading n ≡ codes "refuse " ++ decimal n ++ codes " "
refused zero h = absurd (h refl)
refused (suc n) h = refl

pub later : (p v : ℕ) → (p ≡ 0 → ⊥) → piece p v ≡ codes " " ++ decimal v
later zero v h = absurd (h refl)
later (suc p) v h = refl

pub one_more : (g : ℕ → ℕ) (p : ℕ) → spaced g (p + 1) ≡ spaced g p ++ piece p (g p)
unfolding spaced
one_more g p = rw (add-one p)

-- a front of the first pieces is one of more
pub front_up : {a b : Option (List ℕ)} (g : ℕ → ℕ) (p d : ℕ) → AppendsFront a b (spaced g p) → AppendsFront a b (spaced g (p + d))
unfolding spaced
front_up {a} {b} g p zero f =
    let same : p ≡ p + 0 = omega arith in
    subst (λ n. AppendsFront a b (spaced g n)) same f
front_up {a} {b} g p (suc d) f =
    let same : suc (p + d) ≡ p + suc d = omega arith in
    subst (λ n. AppendsFront a b (spaced g n)) same (front_more (piece (p + d) (g (p + d))) (front_up g p d f))
