-- `shape::Shape::shared` meets its contract.
use mathlib.Core.Path.{sym}
use Rattle.shape.proofs.Entries.{shared_at}
use Rattle.shape.proofs.Shape.shared.Goals as goal

pub returns : goal.returns
returns c = let a = c.args in sym (shared_at a.self.now.flags a.a)
