-- The first record that isn't right decides.
use native.Mathlib.Omega.{arith}
use lib.ListN.{length}
use Rattle.claim.proofs.Next as next
use Rattle.claim.proofs.Steps.{turn_refused}
use Rattle.model.proofs.Tables.{table_store}
use Rattle.claim.proofs.reader.Reader.fill_starts.Goals as goal

pub returns-in_err-next-clause-reading : goal.returns-in_err-next-clause-reading
returns-in_err-next-clause-reading c =
    grind (arith, turn_refused _ _ c.loop-start.invariant.right (length c.args.starts.now))

pub loop-start-preserved : goal.loop-start-preserved
loop-start-preserved c =
    let w = c.loop-start in
    record {
      starts = rw (w.invariant.starts, w.invariant.here) (table_store _ _ w.start-index (omega arith));
      here = grind (arith, next.records);
      least = grind (arith, next.records);
      right = grind (arith, next.records);
    }
