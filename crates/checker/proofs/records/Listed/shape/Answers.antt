-- A shape from the part of the file that holds its record.
use mathlib.Core.Path.{ap, ◌∙◌}
use Rattle.model.specs.Format.{version_1}
use Rattle.model.specs.Claim as M
use Rattle.checker.proofs.Laws.{small, readable}
use Rattle.checker.proofs.records.Listed.shape.Goals as goal

pub read-requires : goal.read-requires
read-requires c = rw c.part.ensures (readable _ _ _ c.args.self.now.laid _ c.requires)

pub returns : goal.returns
returns c =
    let e = c.read.ensures ∙ ap (M.shape_of version_1) c.part.ensures in
    record { is = e; small = rw (ap (λ W. W.size) e) (small _ _ _ c.args.self.now.laid _ c.requires) }
