-- `shape::Shape::set_link` meets its contract.
use mathlib.Core.Path.{◌≡◌, refl}
use native.Mathlib.Omega.{arith}
use borrow.Author.Rules.{rules}
use lib.ListN.{length}
use Rattle.shape.proofs.Entries.{made_eq}
use Rattle.shape.proofs.Grid.{link_set}
use Rattle.shape.specs.Meaning.{cells}
use Rattle.shape.proofs.Shape.set_link.Goals as goal

pub returns : goal.returns
returns c =
    let a = c.args in
    let l : length a.self.now.links ≡ cells = search rules in
    made_eq refl refl refl refl (link_set a.self.now.links a.a a.b a.v.0 l (omega arith) (omega arith))
