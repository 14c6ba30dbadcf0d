-- `shape::Shape::summary` meets its contract.
use mathlib.Core.Path.{sym}
use Rattle.shape.proofs.Entries.{summary_at}
use Rattle.shape.proofs.Shape.summary.Goals as goal

pub returns : goal.returns
returns c = let a = c.args in sym (summary_at a.self.now.flags a.a)
