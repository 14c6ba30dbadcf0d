-- What holds at each turn of the loop.
use Rattle.shape.proofs.Grid.{Down}
use Rattle.shape.specs.Meaning.{column, grid}
use Rattle.shape.proofs.links.copy_links.Given as goal

abbrev pub invariant-loop-c : goal.invariant-loop-c
invariant-loop-c l = Down l.n (column l.n (λ a w. grid l.initial.links a l.v) (grid l.initial.links)) (grid l.initial.links) l.c l.links
