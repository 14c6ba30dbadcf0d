-- What holds at each turn of the loops.
use Prim.Native.Nat.{◌≤◌}
use mathlib.Core.Bool.{false, not}
use mathlib.Core.Path.{◌≡◌}
use Rattle.std.specs.Prelude.{None}
use Rattle.model.specs.Finite.{null, null_ref, any, each}
use Rattle.model.specs.Claim.{claim, op_of}
use Rattle.model.specs.Verdict.{lost, lost_from}
use Rattle.shape.specs.Meaning.{meaning}
use Rattle.shape.specs.Slots.{outcome_slot}
use Rattle.checker.specs.Laid.{covers_it}
use Rattle.checker.proofs.records.Listed.first_lost.Given as goal

-- none of the listed shapes passed covers the outcome
abbrev pub invariant-listed : goal.invariant-listed
invariant-listed l = record {
  passed : l.t ≤ l.self.shapes;
  uncovered : any l.t (covers_it (claim l.self.file.now) l.outcome) ≡ false;
}

-- none of the outcomes passed is lost
abbrev pub invariant-result : goal.invariant-result
invariant-result l = record {
  passed : l.j ≤ l.count;
  found : l.found ≡ l.initial.found;
  covered : lost (claim l.self.file.now) (each l.j (outcome_slot (op_of l.here.op l.here.x l.here.y l.here.s1 l.here.s2) (meaning l.shape))) ≡ null;
}

-- none of the shapes passed has a lost outcome
abbrev pub invariant-claim : goal.invariant-claim
invariant-claim l = record {
  passed : l.i ≤ l.self.shapes;
  found : l.found ≡ None;
  covered : any l.i (λ k. not (null_ref (lost_from (claim l.self.file.now) k))) ≡ false;
}
