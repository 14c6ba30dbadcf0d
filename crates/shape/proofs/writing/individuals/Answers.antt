-- `shape::writing::individuals` meets its contract.
use Prim.Native.Nat.{ℕ, ◌+◌}
use mathlib.Core.List.{List}
use mathlib.Core.Path.{refl, ap, ◌∙◌}
use native.Mathlib.Omega.{arith}
use Rattle.shape.specs.Writing.{laid, individual_bytes}
use Rattle.shape.proofs.Recorded.{step_fits}
use Rattle.shape.proofs.Laying.{laid_none, each_next, individual_length, individual_is}
use Rattle.shape.proofs.writing.individuals.Goals as goal

pub loop-a-init : goal.loop-a-init
loop-a-init c = laid_none _ _

pub loop-a-preserved : goal.loop-a-preserved
loop-a-preserved c =
    let g = c.args in
    let s = g.s.now in
    let h = c.requires in
    let w = c.loop-a in
    let z = step_fits (g.width + 1) w.a s.n c.loop-a-test.true in
    c.individual.ensures
    ∙ ap (λ (b : List ℕ). laid w.out c.individual_at.result b) (individual_is g.width s.masks s.flags w.a _ _ refl refl)
    ∙ each_next (individual_bytes g.width s.masks s.flags) (g.width + 1) (individual_length g.width s.masks s.flags) g.out.now 2 _ w.a w.out (omega arith) c.individual_at.ensures w.invariant
