-- The point records below p are right.
use mathlib.Core.Path.{◌≡◌}
use Rattle.format.specs.Meaning.{meaning}
use Rattle.model.specs.File.{in_turn, fine, point_record, point_at}
use Rattle.claim.proofs.reader.Reader.program.Given as goal

abbrev pub invariant-loop-p : goal.invariant-loop-p
invariant-loop-p l = in_turn l.p (λ i. point_record (meaning l.self.form) l.self.file.now l.self.vars l.self.points (point_at i)) ≡ fine
