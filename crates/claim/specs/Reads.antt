-- What reading a file hands on.
use Rattle.std.specs.Prelude.{ℕ, suc, ◌+◌, ◌≤◌, cond, List, ◌++◌, ◌≡◌, drop, length, get_or, ltb, replicate, Result, IfOk, Option, Some, None}
use Rattle.std.specs.declared.ops.Range.{Range}
use Rattle.model.specs.Format.{Format, format}
use Rattle.model.specs.File as model
use Rattle.model.specs.File.{fine, refused, in_turn, version, reading, shape_record, point_before, start}
use Rattle.model.specs.Verdict.{table}
use Rattle.claim.specs.declared.fields.Refusal.{Refusal}
use Rattle.claim.specs.declared.parts.Claim.{Claim}
use Rattle.claim.specs.Answers.{reading_of}

-- an array of places, all 0
unfoldable pub zeros : List ℕ
zeros = replicate 513 0

-- where each record starts and where the last one ends; beyond that 0
abbrev pub starts_of : Format → List ℕ → List ℕ
starts_of F f = table (start F f) (model.shapes f + 1) ++ drop (model.shapes f + 1) zeros

-- what the first n records come to
abbrev pub first_records : Format → List ℕ → ℕ → model.Reading
first_records F f n = in_turn n (λ i. shape_record F f (model.vars f) (model.points f) (point_before F f i) (start F f i))

-- c is V, N, M and those places, and nothing else
pub record Everything (F : Format) (f : List ℕ) (c : Claim) : Type 0 where
  pub vars : c.vars ≡ model.vars f
  pub points : c.points ≡ model.points f
  pub shapes : c.shapes ≡ model.shapes f
  pub starts : c.starts ≡ starts_of F f

-- r is what a file whose fields come to R hands on: the refusal alone, or everything
pub record Reads (F : Format) (f : List ℕ) (R : model.Reading) (r : Result Claim Refusal) : Type 0 where
  pub reading : reading_of r ≡ R
  pub rest : IfOk r (Everything F f)

-- where record i of a claim starts and ends
abbrev pub part_of : Claim → ℕ → Option (Range ℕ)
part_of c i = cond (ltb i c.shapes) (Some (record { start = get_or c.starts i 0; end = get_or c.starts (i + 1) 0 })) None

-- where record i of a file stands: nowhere in one that is refused, nor beyond M
abbrev pub place_if : model.Reading → List ℕ → ℕ → Option (Range ℕ)
place_if fine f i = cond (ltb i (model.shapes f)) (Some (record { start = start (format (version f)) f i; end = start (format (version f)) f (suc i) })) None
place_if (refused _ _) f i = None

unfoldable pub place_of : List ℕ → ℕ → Option (Range ℕ)
place_of f i = place_if (reading f) f i

-- from its start to its end in the file
pub record Inside (f : List ℕ) (p : Range ℕ) : Type 0 where
  pub ordered : p.start ≤ p.end
  pub in_file : p.end ≤ length f
