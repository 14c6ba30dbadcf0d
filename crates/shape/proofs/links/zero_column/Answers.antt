-- `shape::links::zero_column` meets its contract. All links into t become 0.
use mathlib.Core.Path.{refl, sym}
use native.Mathlib.Omega.{arith}
use Rattle.model.specs.Step.{all_zero}
use Rattle.shape.proofs.Grid.{column_beyond, column_else, column_here, down_done, down_next}
use Rattle.shape.specs.Meaning.{column, grid}
use Rattle.shape.proofs.links.zero_column.Goals as goal

pub loop-a-preserved : goal.loop-a-preserved
loop-a-preserved c =
    let g = c.args in
    let s = c.loop-a in
    let l = grid g.links.now in (
      omega arith,
      down_next g.t (column g.t all_zero l) l s.links s.a 0 (omega arith) (omega arith) (column_else g.t all_zero l) (sym (column_here g.t all_zero l s.a)) s.invariant.1,
    )

pub returns : goal.returns
returns c =
    let g = c.args in
    let s = c.loop-a in
    let l = grid g.links.now in
    record {
      whole = s.invariant.1.0;
      says = down_done g.t (column g.t all_zero l) l s.links s.a (omega arith) (omega arith) (λ x b h. column_beyond g.t all_zero g.links.now x b (refl) h) s.invariant.1;
    }
