-- `shape::links::zero_row` meets its contract.
use native.Mathlib.Omega.{arith}
use Rattle.shape.proofs.Filled.{row_filled}
use Rattle.shape.proofs.links.zero_row.Goals as goal

pub returns : goal.returns
returns c =
    row_filled _ _ c.args.u _ c.told-links (omega arith) (omega arith) (c.fill.ensures.after (λ y e. e))
