-- The place of a record is the claim's, where one is read.
use mathlib.Core.Path.{◌∙◌}
use Rattle.claim.proofs.Handed.{read_claim, no_claim, part_is, inside}
use Rattle.claim.proofs.place.Goals as goal

pub returns-in_err-ok-clause-is : goal.returns-in_err-ok-clause-is
returns-in_err-ok-clause-is c = rw c.from_residual.ensures (no_claim _ _ _ c.in_err-ok.ensures.value c.scan.ensures)

pub returns-clause-is : goal.returns-clause-is
returns-clause-is c = c.part.ensures ∙ part_is (read_claim _ _ _ c.in_ok-ok.ensures.value c.scan.ensures) _

pub returns-clause-inside : goal.returns-clause-inside
returns-clause-inside c = rw (c.part.ensures, part_is (read_claim _ _ _ c.in_ok-ok.ensures.value c.scan.ensures)) (inside _ _)
