-- `shape::Shape::link` meets its contract.
use native.Mathlib.Omega.{arith}
use Rattle.shape.proofs.Grid.{grid_at}
use Rattle.shape.proofs.Shape.link.Goals as goal

pub returns : goal.returns
returns c = let a = c.args in grid_at a.self.now.links a.a a.b (omega arith) (omega arith)
