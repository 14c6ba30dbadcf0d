-- Whether a point lists a shape.
use mathlib.Core.Path.{ap, ◌∙◌}
use borrow.Author.Rules.{rules}
use borrow.Author.Tests.{tests}
use lib.Dec.{eqb}
use Rattle.model.specs.Finite.{any}
use Rattle.model.specs.Claim.{claim}
use Rattle.model.specs.Verdict.{lists_some}
use Rattle.shape.proofs.Ranges.{any_below}
use Rattle.checker.proofs.records.Listed.lists_some.Goals as goal

pub returns : goal.returns
unfolding lists_some
returns c =
    any_below c.args.self.now.shapes (λ j. eqb ((claim c.args.self.now.file.now).point j) c.args.p) _ _ _ c.any.ensures.ran (λ x b q k. search (rules, tests))
    ∙ ap (λ n. any n (λ j. eqb ((claim c.args.self.now.file.now).point j) c.args.p)) c.args.self.now.laid.shapes
