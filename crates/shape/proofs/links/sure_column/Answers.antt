-- `shape::links::sure_column` meets its contract. Every 1/2 into t from another than u becomes 0.
use mathlib.Core.Path.{◌∙◌, ap, sym}
use native.Mathlib.Omega.{arith}
use Rattle.model.specs.Step.{sure_but}
use Rattle.shape.proofs.Grid.{column_beyond, column_else, column_here, down_done, down_next, down_read}
use Rattle.shape.proofs.Truths.{sure_zero}
use Rattle.shape.specs.Meaning.{column, grid}
use Rattle.shape.proofs.links.sure_column.Goals as goal

pub loop-a-preserved : goal.loop-a-preserved
loop-a-preserved c =
    let g = c.args in
    let s = c.loop-a in
    let l = grid g.links.now in (
      omega arith,
      down_next g.t (column g.t (sure_but g.u) l) l s.links s.a _ (omega arith) (omega arith) (column_else g.t (sure_but g.u) l) (c.sure_value.ensures ∙ ap ((sure_but g.u) s.a) (down_read g.t (column g.t (sure_but g.u) l) l s.links s.a g.t (omega arith) (omega arith) s.invariant.1) ∙ sym (column_here g.t (sure_but g.u) l s.a)) s.invariant.1,
    )

pub returns : goal.returns
returns c =
    let g = c.args in
    let s = c.loop-a in
    let l = grid g.links.now in
    record {
      whole = s.invariant.1.0;
      says = down_done g.t (column g.t (sure_but g.u) l) l s.links s.a (omega arith) (omega arith) (λ x b h. column_beyond g.t (sure_but g.u) g.links.now x b (sure_zero g.u x) h) s.invariant.1;
    }
