-- What the checker's answers mean in the definitions.
use Rattle.std.specs.Prelude.{ℕ, suc, Option, Some, None, Result, Ok, Err, ◌-◌, ◌≤◌, Bool, cond, List, ◌≡◌, ltb}
use Rattle.model.specs.Finite.{null, at}
use Rattle.model.specs.Shape.{Shape}
use Rattle.model.specs.Format.{format}
use Rattle.model.specs.File.{Reading, fine, refused, reading, version, shapes, start}
use Rattle.model.specs.Claim.{Claim, claim}
use Rattle.model.specs.Verdict as M
use Rattle.model.specs.Verdict.{lost_from, lowest_lost, none_shared}
use Rattle.model.specs.Safe.{Safe}
use Rattle.model.specs.Step.{edge}
use Rattle.shape.specs.declared.Shape as S
use Rattle.shape.specs.Meaning.{meaning}
use Rattle.claim.specs.Answers.{fault_of}
use Rattle.checker.specs.declared.Accepted.{Accepted}
use Rattle.checker.specs.declared.Refused.{Refused}
use Rattle.checker.specs.declared.Refused.TheVariants.{Unreadable, NoEntry, ShortBuffer, Uncovered}

-- `answer_of` of the model's Verdict has the paper's number, a and b for each
abbrev pub verdict_of : Result Accepted Refused → M.Verdict
verdict_of (Ok a) = M.accepted a.shapes a.open_points
verdict_of (Err (Unreadable r)) = M.unreadable (fault_of r.fault) r.place
verdict_of (Err NoEntry) = M.no_entry
verdict_of (Err (ShortBuffer points)) = M.short_buffer points
verdict_of (Err (Uncovered shape successor)) = M.uncovered shape successor

-- demand 3 of the file, if it is accepted
abbrev pub SafeIfAccepted : Result Accepted Refused → List ℕ → Type 0
SafeIfAccepted r f = (a b : ℕ) → verdict_of r ≡ M.accepted a b → Safe (claim f)

-- the lowest shape number with an uncovered outcome, and the successor of its first one; or there is none
abbrev pub Says : Option (ℕ × ℕ) → Claim → Type 0
Says (Some (i, s)) C = (lowest_lost C ≡ at i) × (lost_from C i ≡ at s)
Says None C = lowest_lost C ≡ null

-- what is asked of a shape within the edge is T of what it means
abbrev pub Computes : (S.Shape → Bool → Type 0) → (Shape → Bool) → Type 0
Computes R T = (s : S.Shape) (r : Bool) → s.n ≤ edge → R s r → r ≡ T (meaning s)

-- the second call by start and length: where the part stands that is handed back, or 0 and 0
abbrev pub place_if : Reading → List ℕ → ℕ → ℕ × ℕ
place_if fine f i =
    cond (ltb i (shapes f)) (start (format (version f)) f i, start (format (version f)) f (suc i) - start (format (version f)) f i) (0, 0)
place_if (refused fault place) f i = (0, 0)

unfoldable pub handed_place : List ℕ → ℕ → ℕ × ℕ
handed_place f i = place_if (reading f) f i
