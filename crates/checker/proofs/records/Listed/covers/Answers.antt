-- A listed shape against an outcome: the point's byte first, then the record where it stands.
use mathlib.Core.Bool.{◌&&◌}
use mathlib.Core.Path.{sym, ap, ap₂, ◌∙◌}
use borrow.Author.Tests.{eq-eqb}
use Rattle.model.specs.Shape.{covered}
use Rattle.model.specs.Format.{version_1}
use Rattle.model.specs.Claim as M
use Rattle.shape.specs.Meaning.{meaning}
use Rattle.checker.proofs.Laws.{readable}
use Rattle.checker.proofs.records.Listed.covers.Goals as goal

pub covered-requires : goal.covered-requires
covered-requires c = (c.requires.1, rw c.part.ensures (readable _ _ _ c.args.self.now.laid _ c.requires.0))

pub returns-then-point-outcome : goal.returns-then-point-outcome
returns-then-point-outcome c =
    c.covered.ensures
    ∙ sym (ap₂ ◌&&◌ (eq-eqb _ _ (sym c.point.ensures.is ∙ c.if-point-outcome.true)) (ap (λ r. covered (meaning c.args.outcome.now.shape) (M.shape_of version_1 r)) (sym c.part.ensures)))
