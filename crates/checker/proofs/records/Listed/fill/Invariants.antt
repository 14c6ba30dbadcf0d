-- The bytes of the points passed stand, and the rest is as it was.
use Prim.Native.Nat.{◌≤◌}
use mathlib.Core.List.{◌++◌}
use mathlib.Core.Path.{◌≡◌}
use lib.ListN.{length, drop}
use Rattle.model.specs.Claim.{claim}
use Rattle.model.specs.Verdict.{answer_byte, table}
use Rattle.checker.proofs.records.Listed.fill.Given as goal

abbrev pub invariant-loop-p : goal.invariant-loop-p
invariant-loop-p l = record {
  passed : l.p ≤ l.n;
  whole : length l.initial.byte-items ≡ l.n;
  bytes : l.byte-items ≡ table (answer_byte (claim l.self.file.now)) l.p ++ drop l.p l.initial.byte-items;
}
