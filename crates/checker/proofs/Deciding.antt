-- The verdict on a file, with both promises: it is the definition's, and an accepted file is safe.
use Prim.Native.Nat.{ℕ, ◌%◌, ◌≤◌, ◌<◌}
use mathlib.Core.Bool.{Bool, true, false}
use mathlib.Core.List.{List, [], ◌++◌}
use mathlib.Core.Path.{◌≡◌, sym, ap, ◌∙◌}
use native.Mathlib.Omega.{arith}
use lib.Dec.{eqb}
use lib.ListN.{length, get_or, take, drop}
use Rattle.std.proofs.Common.{take_all}
use Rattle.std.specs.Prelude.{Result, Ok, Err, IsErrAnd, Some, None}
use Rattle.std.specs.List.{count_by}
use Rattle.std.proofs.lemmas.List.{append-nil, take-append-le}
use Rattle.model.specs.Finite.{count}
use Rattle.model.specs.Format.{format}
use Rattle.model.specs.File.{reading, version, fine, points, shapes}
use Rattle.model.specs.Claim.{claim}
use Rattle.model.specs.Verdict as M
use Rattle.model.specs.Verdict.{lists_some, answer_byte, open_points, table}
use Rattle.model.specs.Safe.{Safe}
use Rattle.model.proofs.Search.{count_cong}
use Rattle.model.proofs.Tables.{table_at, table_length}
use Rattle.model.proofs.Verdicts.{Decided, not_read, not_entered, too_short, not_covered, all_covered, open_by_bytes}
use Rattle.sound.proofs.Safe.{safe}
use Rattle.claim.specs.Answers.{fault_of}
use Rattle.claim.specs.Reads.{Reads}
use Rattle.claim.specs.declared.fields.Refusal.{Refusal}
use Rattle.claim.specs.declared.parts.Claim.{Claim}
use Rattle.claim.proofs.Handed.{is_fine, starts_is}
use Rattle.checker.specs.declared.Accepted.{Accepted}
use Rattle.checker.specs.declared.Refused.{Refused}
use Rattle.checker.specs.declared.Refused.TheVariants.{Unreadable}
use Rattle.checker.specs.Laid.{Laid}
use Rattle.checker.specs.Meaning.{Says}
use Rattle.checker.proofs.Counted.{counted}

-- what the reader has handed on
pub laid : {f : List ℕ} {r : Claim} → Reads (format (version f)) f (reading f) (Ok r) → Laid f r.starts r.shapes
laid t = record { read = is_fine t; shapes = t.rest.shapes; starts_at = starts_is t }

-- what a refused file is answered with
pub refused_by : (v : Result Accepted Refused) (r : Refusal) → IsErrAnd v (λ e. e ≡ Unreadable r) → v ≡ Err (Unreadable r)
refused_by (Ok a) r h = absurd h
refused_by (Err e) r h = ap (λ e. Err e) h

-- a byte that says open
abbrev open_byte : ℕ → Bool
open_byte v = eqb (v % 4) 2

-- of the bytes written as many are open as the claim has open points
open_counted : (f : List ℕ) (n : ℕ) (after out : List ℕ) (o : ℕ) → n ≡ points f → after ≡ table (answer_byte (claim f)) n ++ drop n out → o ≡ count_by open_byte (take n after) → o ≡ open_points (claim f)
open_counted f n after out o p b c =
    c ∙ ap (count_by open_byte) written ∙ counted open_byte (table (answer_byte (claim f)) n)
    ∙ ap (λ m. count m (λ x. open_byte (get_or (table (answer_byte (claim f)) n) x 0))) (table_length (answer_byte (claim f)) n)
    ∙ count_cong n _ _ (λ x l. ap open_byte (ap (λ l. get_or l x 0) (sym (append-nil (table (answer_byte (claim f)) n))) ∙ table_at (answer_byte (claim f)) n [] x l))
    ∙ ap (λ n. count n (λ x. open_byte (answer_byte (claim f) x))) p
    ∙ sym (open_by_bytes (claim f))
  where
    written : take n after ≡ table (answer_byte (claim f)) n
    written =
        ap (take n) b
        ∙ take-append-le n (table (answer_byte (claim f)) n) (drop n out) (omega (arith, table_length (answer_byte (claim f)) n))
        ∙ take_all n (table (answer_byte (claim f)) n) (omega (arith, table_length (answer_byte (claim f)) n))

module _ (f out : List ℕ) where
  -- both promises of a verdict v that leaves the buffer so
  abbrev pub Promised : M.Verdict → List ℕ → Type 0
  Promised v after = Decided f out v after × ((a b : ℕ) → v ≡ M.accepted a b → Safe (claim f))

  promised : {v : M.Verdict} {after : List ℕ} → Decided f out v after → Promised v after
  promised d = (d, λ a b e. safe f (length out) a b (sym d.0 ∙ e))

  pub unread : (r : Refusal) → Reads (format (version f)) f (reading f) (Err r) → Promised (M.unreadable (fault_of r.fault) r.place) out
  unread r t = promised (not_read f out (fault_of r.fault) r.place (sym t.reading))

  module _ (e : reading f ≡ fine) where
    pub unentered : lists_some (claim f) 0 ≡ false → Promised M.no_entry out
    unentered q = promised (not_entered f out e q)

    module _ (q : lists_some (claim f) 0 ≡ true) (n : ℕ) (p : n ≡ points f) where
      pub short : length out < n → Promised (M.short_buffer n) out
      short h = rw p (promised (too_short f out e q (rw p at h)))

      module _ (h : n ≤ length out) where
        room : points f ≤ length out
        room = rw p at h

        pub lost : (i s : ℕ) → Says (Some (i, s)) (claim f) → Promised (M.uncovered i s) out
        lost i s w = promised (not_covered f out e q room i s w.0 w.1)

        -- all is covered, the bytes were written, and the open ones counted
        pub accepts : Says None (claim f) → (m o : ℕ) (after : List ℕ) → m ≡ shapes f → after ≡ table (answer_byte (claim f)) n ++ drop n out → o ≡ count_by (λ byte. eqb (byte % 4) 2) (take n after) → Promised (M.accepted m o) after
        accepts w m o after d b c =
            rw (d, counted_bytes, b') (promised (all_covered f out e q room w))
          where
            counted_bytes : o ≡ open_points (claim f)
            counted_bytes = open_counted f n after out o p b c

            b' : after ≡ table (answer_byte (claim f)) (points f) ++ drop (points f) out
            b' = b ∙ ap (λ n. table (answer_byte (claim f)) n ++ drop n out) p
