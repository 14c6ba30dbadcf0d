-- What holds at each turn of the loop.
use mathlib.Core.Path.{◌≡◌}
use Rattle.model.specs.Finite.{each}
use Rattle.shape.specs.Writing.{laid, individual_bytes}
use Rattle.shape.proofs.writing.individuals.Given as goal

abbrev pub invariant-loop-a : goal.invariant-loop-a
invariant-loop-a l =
    l.out ≡ laid l.initial.out 2 (each l.a (individual_bytes l.width l.s.masks l.s.flags))
