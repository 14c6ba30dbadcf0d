-- What holds at each turn of the loop.
use mathlib.Core.Path.{◌≡◌}
use Rattle.model.specs.Finite.{each}
use Rattle.shape.specs.Writing.{laid, link_byte}
use Rattle.shape.proofs.writing.rows.Given as goal

abbrev pub invariant-loop-a : goal.invariant-loop-a
invariant-loop-a l =
    l.out ≡ laid l.initial.out l.place (each l.a (λ x. each l.k (link_byte l.links x)))
