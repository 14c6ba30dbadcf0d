-- The first point record that isn't right decides.
use native.Mathlib.Omega.{arith}
use Rattle.model.specs.File.{point_records}
use Rattle.claim.proofs.Steps.{turn_refused}
use Rattle.claim.proofs.reader.Reader.program.Goals as goal

pub returns-in_err-point : goal.returns-in_err-point
unfolding point_records
returns-in_err-point c = grind (arith, turn_refused _ _ c.loop-p.invariant c.args.self.now.points)
