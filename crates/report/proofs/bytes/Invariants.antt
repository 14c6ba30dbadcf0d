-- The bytes so far are written.
use Rattle.std.specs.Prelude.{slice_index}
use Rattle.std.specs.Io.KnownBytes.{Appends}
use Rattle.report.specs.Text.{spaced}
use Rattle.report.proofs.bytes.Given as goal

abbrev pub invariant-loop-p : goal.invariant-loop-p
invariant-loop-p g l =
    Appends (g.W.Write.contents l.fn.out) (g.W.Write.contents l.out) (spaced (slice_index l.answer) l.p)
