-- What holds at each turn of the loop.
use Prim.Native.Nat.{◌≤◌}
use Rattle.model.specs.Step.{all_zero, edge}
use Rattle.shape.proofs.Grid.{Down}
use Rattle.shape.specs.Meaning.{column, grid}
use Rattle.shape.proofs.links.zero_column.Given as goal

abbrev pub invariant-loop-a : goal.invariant-loop-a
invariant-loop-a l = (l.a ≤ edge) × Down l.t (column l.t all_zero (grid l.initial.links)) (grid l.initial.links) l.a l.links
