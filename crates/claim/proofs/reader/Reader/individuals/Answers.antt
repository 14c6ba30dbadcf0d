-- The first individual that isn't right decides.
use native.Mathlib.Omega.{arith}
use Rattle.model.specs.File.{individual, individuals}
use Rattle.claim.proofs.Steps.{steps, turn_refused}
use Rattle.claim.proofs.reader.Reader.individuals.Goals as goal

pub returns-in_err-field-clause-reading : goal.returns-in_err-field-clause-reading
unfolding individuals individual
returns-in_err-field-clause-reading c = grind (arith, steps, turn_refused _ _ c.loop-i.invariant.right c.args.k)

pub returns-in_err-field-2-clause-reading : goal.returns-in_err-field-2-clause-reading
unfolding individuals individual
returns-in_err-field-2-clause-reading c = grind (arith, steps, turn_refused _ _ c.loop-i.invariant.right c.args.k)
