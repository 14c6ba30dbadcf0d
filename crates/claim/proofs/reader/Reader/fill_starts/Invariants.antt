-- The records before this start are right, and starts, here and least are what the definition has there.
use mathlib.Core.List.{◌++◌}
use mathlib.Core.Path.{◌≡◌}
use lib.ListN.{drop}
use Rattle.format.specs.Meaning.{meaning}
use Rattle.model.specs.Verdict.{table}
use Rattle.model.specs.File.{fine, start, point_before}
use Rattle.claim.specs.Reads.{first_records}
use Rattle.claim.proofs.reader.Reader.fill_starts.Given as goal

abbrev pub invariant-loop-start : goal.invariant-loop-start
invariant-loop-start l = record {
  starts : l.starts ≡ table (start (meaning l.self.form) l.self.file.now) l.start-index ++ drop l.start-index l.initial.starts;
  here : l.here ≡ start (meaning l.self.form) l.self.file.now l.start-index;
  least : l.least ≡ point_before (meaning l.self.form) l.self.file.now l.start-index;
  right : first_records (meaning l.self.form) l.self.file.now l.start-index ≡ fine;
}
