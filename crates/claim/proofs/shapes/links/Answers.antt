-- The first link value that isn't right decides.
use native.Mathlib.Omega.{arith}
use Rattle.model.specs.File.{link_values}
use Rattle.claim.proofs.Steps.{turn_refused}
use Rattle.claim.proofs.shapes.links.Goals as goal

pub returns-in_err-field-clause-reading : goal.returns-in_err-field-clause-reading
unfolding link_values
returns-in_err-field-clause-reading c = grind (arith, turn_refused _ _ c.loop-j.invariant.right c.args.n)
