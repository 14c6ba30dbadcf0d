-- What holds at each turn of the loop.
use mathlib.Core.Path.{◌≡◌}
use Rattle.model.specs.Finite.{each}
use Rattle.shape.specs.Writing.{laid, link_byte}
use Rattle.shape.proofs.writing.row.Given as goal

abbrev pub invariant-loop-b : goal.invariant-loop-b
invariant-loop-b l =
    l.out ≡ laid l.initial.out l.at (each l.b (link_byte l.links l.a))
