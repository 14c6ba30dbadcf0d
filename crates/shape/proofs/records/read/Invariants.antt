-- What holds at each turn of the loop.
use Prim.Native.Nat.{ℕ, ◌+◌, ◌*◌}
use Rattle.model.specs.File.{byte, number}
use Rattle.shape.proofs.Lookups.{Lined}
use Rattle.shape.proofs.records.read.Given as goal

abbrev pub invariant-loop-a : goal.invariant-loop-a
invariant-loop-a l =
    Lined (λ (x : ℕ). number l.width l.part (2 + (l.width + 1) * x)) (λ x. 0) l.a l.masks
    × Lined (λ (x : ℕ). byte l.part (2 + (l.width + 1) * x + l.width)) (λ x. 0) l.a l.flags
