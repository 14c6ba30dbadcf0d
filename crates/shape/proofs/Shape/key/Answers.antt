-- `shape::Shape::key` meets its contract.
use mathlib.Core.Path.{◌∙◌}
use Rattle.shape.proofs.Entries.{key_is}
use Rattle.shape.proofs.Shape.key.Goals as goal

pub returns : goal.returns
returns c = let s = c.args.self.now in c.key.ensures ∙ key_is s.masks s.flags c.args.a
