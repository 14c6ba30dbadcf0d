-- `shape::covering::links_covered` meets its contract.
use Rattle.std.proofs.Common.{rules, arith}
use Rattle.std.proofs.lemmas.Iterator.{serves_from_Range}
use Rattle.shape.proofs.Recorded.{step_fits}
use Rattle.shape.proofs.Ranges.{all_below}
use Rattle.shape.proofs.covering.links_covered.Goals as goal

pub all-requires-clause-callable : goal.all-requires-clause-callable
all-requires-clause-callable c =
    serves_from_Range (λ x q h. search rules) (λ x i j. let n = c.args.s.now.n in let z = step_fits n x n j in search (rules, arith))

pub returns : goal.returns
returns c = all_below c.args.s.now.n _ _ _ _ c.all.ensures.ran (λ x b q k. search rules)
