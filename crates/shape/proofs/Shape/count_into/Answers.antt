-- `shape::Shape::count_into` meets its contract.
use mathlib.Core.Path.{refl}
use Rattle.std.proofs.Common.{rules}
use borrow.Author.Tests.{tests}
use Rattle.shape.proofs.Ranges.{count_below}
use Rattle.shape.specs.Meaning.{grid}
use Rattle.shape.proofs.Shape.count_into.Goals as goal

pub returns : goal.returns
returns g c =
    count_below (λ a. g.C.Certainty.test (grid c.args.self.now.links a c.args.t)) _ c.args.self.now.n c.filter.result _ _ c.count.ensures.ran c.filter.ensures.source c.filter.ensures.closure
    (λ x b q k. search (rules, tests))
    (λ k l. refl)
