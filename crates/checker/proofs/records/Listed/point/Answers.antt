-- The point that lists a shape: the first byte of its record.
use mathlib.Core.Path.{◌∙◌}
use native.Mathlib.Omega.{arith}
use Rattle.checker.proofs.Laws.{few, there, point_is, point_few}
use Rattle.checker.proofs.records.Listed.point.Goals as goal

pub bounds-self-i : goal.bounds-self-i
bounds-self-i c = let z = few _ _ _ c.args.self.now.laid in let h = c.requires in omega arith

pub offset_bounds-self-i : goal.offset_bounds-self-i
offset_bounds-self-i c = let z = few _ _ _ c.args.self.now.laid in let h = c.requires in omega arith

pub bounds-self-self : goal.bounds-self-self
bounds-self-self c = there _ _ _ c.args.self.now.laid _ c.requires

pub returns : goal.returns
returns c =
    let e = c.from.ensures ∙ point_is _ _ _ c.args.self.now.laid _ c.requires in
    record { is = e; low = rw e (point_few _ _ _ c.args.self.now.laid _ c.requires) }
