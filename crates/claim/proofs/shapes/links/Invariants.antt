-- The link values below j are right, so the place of the next one is in the file or at its end.
use Prim.Native.Nat.{◌+◌, ◌≤◌}
use mathlib.Core.Path.{◌≡◌}
use lib.Dec.{leb}
use lib.ListN.{length}
use Rattle.model.specs.File.{in_turn, fine, field, byte, wrong_shape}
use Rattle.claim.proofs.shapes.links.Given as goal

abbrev pub invariant-loop-j : goal.invariant-loop-j
invariant-loop-j l = record {
  in_file : l.place + l.j ≤ length l.file;
  right : in_turn l.j (λ i. field l.file (l.place + i) 1 wrong_shape (leb (byte l.file (l.place + i)) 2)) ≡ fine;
}
