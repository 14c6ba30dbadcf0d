-- Whether no individual is shared.
use mathlib.Core.Bool.{not}
use borrow.Author.Rules.{rules}
use borrow.Author.Tests.{tests}
use Rattle.shape.specs.Meaning.{shared}
use Rattle.shape.proofs.Ranges.{all_below}
use Rattle.checker.proofs.answers.none_shared.Goals as goal

pub returns : goal.returns
returns c = all_below c.args.s.now.n (λ a. not (shared c.args.s.now.flags a)) _ _ _ c.all.ensures.ran (λ x b q k. search (rules, tests))
