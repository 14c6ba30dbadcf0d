-- The reader's answers, and what each says in the definitions; `answer_of` of the model's Verdict has the paper's number,
-- a and b for each.
use Rattle.std.specs.Prelude.{Result, Ok, Err}
use Rattle.model.specs.File as model
use Rattle.model.specs.File.{fine, refused, cut_short, wrong_mark, wrong_version, beyond_limit, wrong_point, wrong_shape}
use Rattle.claim.specs.declared.fields.Fault.{Fault}
use Rattle.claim.specs.declared.fields.Fault.TheVariants.{CutShort, WrongMark, WrongVersion, BeyondLimit, WrongPoint, WrongShape}
use Rattle.claim.specs.declared.fields.Refusal.{Refusal}

abbrev pub fault_of : Fault → model.Fault
fault_of CutShort = cut_short
fault_of WrongMark = wrong_mark
fault_of WrongVersion = wrong_version
fault_of BeyondLimit = beyond_limit
fault_of WrongPoint = wrong_point
fault_of WrongShape = wrong_shape

-- whatever it hands on, what is read with no refusal is fine
abbrev pub reading_of : {T : Type 0} → Result T Refusal → model.Reading
reading_of (Ok _) = fine
reading_of (Err r) = refused (fault_of r.fault) r.place
