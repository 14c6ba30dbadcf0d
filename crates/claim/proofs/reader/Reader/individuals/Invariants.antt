-- The individuals below i are right, and here, held and floor are what the definition has for i.
use Prim.Native.Nat.{◌^◌, ◌≤◌}
use mathlib.Core.Path.{◌≡◌}
use lib.ListN.{length}
use Rattle.format.specs.Meaning.{meaning}
use Rattle.model.specs.File as model
use Rattle.model.specs.File.{in_turn, fine, individual, individual_at}
use Rattle.claim.proofs.reader.Reader.individuals.Given as goal

abbrev pub invariant-loop-i : goal.invariant-loop-i
invariant-loop-i l = record {
  here : l.here ≡ individual_at (meaning l.self.form) l.place l._i;
  held : l.held ≡ model.held (meaning l.self.form) l.self.file.now l.place l._i;
  floor : l.floor ≡ model.floor (meaning l.self.form) l.self.file.now l.place l._i;
  in_file : l.place ≤ length l.self.file.now → l.here ≤ length l.self.file.now;
  right : in_turn l._i (individual (meaning l.self.form) l.self.file.now (2 ^ l.self.vars) l.place) ≡ fine;
}
