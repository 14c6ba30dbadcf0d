-- What holds at each turn of the loops.
use Prim.Native.Nat.{ℕ, ◌+◌, ◌*◌}
use Rattle.model.specs.Truth.{truth}
use Rattle.model.specs.File.{byte}
use Rattle.shape.proofs.Merging.{Upto}
use Rattle.shape.proofs.records.links_of.Given as goal

abbrev pub invariant-loop-a : goal.invariant-loop-a
invariant-loop-a l = Upto (λ (x y : ℕ). truth (byte l.part (l.place + l.k * x + y))) l.k l.a 0 l.r
