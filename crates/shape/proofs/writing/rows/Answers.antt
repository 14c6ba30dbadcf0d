-- `shape::writing::rows` meets its contract.
use Prim.Native.Nat.{ℕ}
use mathlib.Core.Path.{refl, ◌∙◌}
use native.Mathlib.Omega.{arith}
use Rattle.model.specs.Finite.{each}
use Rattle.shape.specs.Writing.{link_byte}
use Rattle.shape.proofs.Recorded.{step_fits}
use Rattle.shape.proofs.Laying.{laid_none, each_next, row_length}
use Rattle.shape.proofs.writing.rows.Goals as goal

pub loop-a-init : goal.loop-a-init
loop-a-init c = laid_none _ _

pub loop-a-preserved : goal.loop-a-preserved
loop-a-preserved c =
    let g = c.args in
    let h = c.requires in
    let w = c.loop-a in
    let z = step_fits g.k w.a g.k c.loop-a-test.true in
    c.row.ensures
    ∙ each_next (λ (x : ℕ). each g.k (link_byte g.links.now x)) g.k (row_length g.links.now g.k) g.out.now g.place _ w.a w.out (omega arith) refl w.invariant
