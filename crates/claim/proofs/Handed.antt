-- What a caller of scan knows where the file isn't refused, and what a caller of place knows.
use Prim.Native.Nat.{ℕ, suc, ◌+◌, ◌-◌, ◌≤◌}
use mathlib.Core.List.{List, []}
use mathlib.Core.Path.{◌≡◌, refl, sym, ap, ◌∙◌}
use native.Mathlib.Numerals.{add-one}
use native.Mathlib.Omega.{arith}
use borrow.Author.Tests.{ltb-true}
use lib.Dec.{ltb}
use lib.ListN.{length, get_or, take, drop}
use Rattle.std.proofs.lemmas.Option.{none-some, same_Some}
use Rattle.std.specs.Prelude.{Result, Ok, Err, Option, Some, None, IfSome}
use Rattle.std.specs.Result.{result_ok}
use Rattle.std.specs.declared.ops.Range.{Range}
use Rattle.model.specs.Format.{format}
use Rattle.model.specs.File as model
use Rattle.model.specs.File.{fine, refused, version, reading, start, part, handed_back}
use Rattle.model.proofs.Accepted.{body_fine, starts_inside, start_up}
use Rattle.model.proofs.Bools.{by}
use Rattle.model.proofs.Tables.{table_at}
use Rattle.claim.specs.declared.fields.Refusal.{Refusal}
use Rattle.claim.specs.declared.parts.Claim.{Claim}
use Rattle.claim.specs.Reads.{Reads, part_of, place_if, place_of, Inside}

-- ---- the claim

module _ {f : List ℕ} {r : Claim} (t : Reads (format (version f)) f (reading f) (Ok r)) where
  pub is_fine : reading f ≡ fine
  is_fine = sym t.reading

  pub starts_is : (i : ℕ) → i ≤ r.shapes → get_or r.starts i 0 ≡ start (format (version f)) f i
  starts_is i h =
      ap (λ l. get_or l i 0) t.rest.starts
      ∙ table_at _ (model.shapes f + 1) _ i (let e = t.rest.shapes in omega arith)

  pub in_file : (i : ℕ) → i ≤ r.shapes → get_or r.starts i 0 ≤ length f
  in_file i h =
      let e = t.rest.shapes in
      rw (starts_is i h) (starts_inside (format (version f)) f (body_fine f is_fine) i (omega arith))

  pub part_is : (i : ℕ) → part_of r i ≡ place_of f i
  unfolding place_of
  part_is i =
      rw (is_fine, ← t.rest.shapes)
      (by (ltb i r.shapes)
      (λ q.
      let h = ltb-true i r.shapes q in
      rw (q, starts_is i (omega arith), starts_is (i + 1) (omega arith), add-one i))
      (λ q. rw q))

-- ---- the place of a record

-- from what is read as an option
pub read_claim : (f : List ℕ) (r : Result Claim Refusal) (c : Claim) → Some c ≡ result_ok r → Reads (format (version f)) f (reading f) r → Reads (format (version f)) f (reading f) (Ok c)
read_claim f (Ok d) c e t = rw (same_Some _ _ e) t
read_claim f (Err r) c e t = absurd (none-some _ (sym e))

pub no_claim : (f : List ℕ) (r : Result Claim Refusal) (i : ℕ) → None ≡ result_ok r → Reads (format (version f)) f (reading f) r → None ≡ place_of f i
unfolding place_of
no_claim f (Ok d) i e t = absurd (none-some _ e)
no_claim f (Err r) i e t = rw (← t.reading)

-- the part of the file at a place
abbrev pub part_at : List ℕ → Option (Range ℕ) → List ℕ
part_at f None = []
part_at f (Some p) = take (p.end - p.start) (drop p.start f)

pub handed : (f : List ℕ) (i : ℕ) (p : Option (Range ℕ)) → p ≡ place_of f i → part_at f p ≡ handed_back f i
unfolding place_of handed_back part
handed f i p e = rw e (go (reading f))
  where
    go : (R : model.Reading) → part_at f (place_if R f i) ≡ model.part_if R f i
    go (refused w a) = refl
    go fine = by (ltb i (model.shapes f)) (λ q. rw q) (λ q. rw q)

pub inside : (f : List ℕ) (i : ℕ) → IfSome (place_of f i) (Inside f)
unfolding place_of
inside f i = go (reading f) refl
  where
    go : (R : model.Reading) → reading f ≡ R → IfSome (place_if R f i) (Inside f)
    go (refused w a) e = tt
    go fine e =
        by (ltb i (model.shapes f))
        (λ q.
        let h = ltb-true i (model.shapes f) q in
        let z = start_up (format (version f)) f i in
        rw q (record { ordered = omega arith; in_file = starts_inside _ f (body_fine f e) (suc i) (omega arith) }))
        (λ q. rw q tt)
