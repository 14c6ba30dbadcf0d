-- `shape::covering::keys_covered` meets its contract.
use Rattle.std.proofs.Common.{rules}
use borrow.Author.Tests.{tests}
use Rattle.shape.proofs.Entries.{mask_at}
use Rattle.shape.proofs.Ranges.{all_below}
use Rattle.shape.proofs.covering.keys_covered.Goals as goal

pub returns : goal.returns
returns c = all_below c.args.s.now.n _ _ _ _ c.all.ensures.ran (λ x b q k. search (rules, tests, mask_at))
