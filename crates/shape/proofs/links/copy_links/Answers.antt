-- `shape::links::copy_links` meets its contract.
use Prim.Native.Nat.{ℕ, ◌+◌, ◌-◌, ◌*◌}
use mathlib.Core.Path.{◌∙◌, ap, sym}
use native.Mathlib.Omega.{arith}
use Rattle.model.specs.Step.{edge}
use Rattle.model.specs.Truth.{Truth}
use Rattle.shape.proofs.Filled.{row_copied}
use Rattle.shape.proofs.Grid.{column_beyond, column_else, column_here, copied_both, down_done, down_next, down_read, grid_low}
use Rattle.shape.specs.Meaning.{column, grid}
use Rattle.shape.proofs.links.copy_links.Goals as goal

pub loop-c-preserved : goal.loop-c-preserved
loop-c-preserved c =
    let g = c.args in
    let s = c.loop-c in
    let o = grid c.copy_within.new.self in
    let f : ℕ → Truth → Truth = λ a w. o a g.v in
    down_next g.n (column g.n f o) o s.links s.c _ (omega arith) (omega arith) (column_else g.n f o)
    (down_read g.n (column g.n f o) o s.links s.c g.v (omega arith) (omega arith) s.invariant ∙ sym (column_here g.n f o s.c)) s.invariant

pub returns : goal.returns
returns c =
    let g = c.args in
    let s = c.loop-c in
    let m = c.copy_within.new.self in
    let o = grid m in
    let l = g.links.now in
    let f : ℕ → Truth → Truth = λ a w. o a g.v in
    let r = row_copied l g.n g.v ((g.v + 1) * edge - g.v * edge) c.told-links (omega arith) (omega arith) (omega arith) in
    record {
      whole = s.invariant.0;
      says =
          down_done g.n (column g.n f o) o s.links s.c (omega arith) (omega arith)
          (λ x b h. column_beyond g.n f m x b (sym (grid_low m x g.v h)) h) s.invariant
          ∙ ap (λ (h : ℕ → ℕ → Truth). column g.n (λ a w. h a g.v) h) (ap grid c.copy_within.ensures.after ∙ r.says)
          ∙ copied_both g.n g.v (grid l);
    }
