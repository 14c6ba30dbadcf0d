-- What holds at each turn of the loop.
use Prim.Native.Nat.{ℕ}
use Rattle.model.specs.Finite.{is, put}
use Rattle.shape.proofs.Lookups.{Lined}
use Rattle.shape.specs.Meaning.{mask, ref}
use Rattle.shape.proofs.variables.move_bit.Given as goal

abbrev pub invariant-loop-a : goal.invariant-loop-a
invariant-loop-a l = Lined (λ (i : ℕ). put l.x (is (ref l.p) i) (mask l.initial.masks i)) (mask l.initial.masks) l.a l.masks
