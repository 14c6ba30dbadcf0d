-- `shape::Shape::summary_into` meets its contract.
use Rattle.std.proofs.Common.{rules}
use borrow.Author.Tests.{tests}
use Rattle.shape.proofs.Ranges.{any_below}
use Rattle.shape.proofs.Shape.summary_into.Goals as goal

pub returns : goal.returns
returns c = any_below c.args.self.now.n _ _ _ _ c.any.ensures.ran (λ x b q k. search (rules, tests))
