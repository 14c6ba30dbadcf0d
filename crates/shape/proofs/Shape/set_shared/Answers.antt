-- `shape::Shape::set_shared` meets its contract.
use mathlib.Core.Path.{◌≡◌, refl}
use native.Mathlib.Omega.{arith}
use borrow.Author.Rules.{rules}
use lib.ListN.{length}
use Rattle.model.specs.Step.{edge}
use Rattle.shape.proofs.Entries.{made_eq, put_shared, put_summary}
use Rattle.shape.proofs.Shape.set_shared.Goals as goal

pub returns : goal.returns
returns c =
    let a = c.args in
    let l : length a.self.now.flags ≡ edge = search rules in
    let f = a.self.now.flags in
    rw c.from.ensures (made_eq refl refl (put_summary f a.a (omega arith) a.shared) (put_shared f a.a (omega arith) a.shared) refl)
