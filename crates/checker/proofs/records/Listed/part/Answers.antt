-- The part of the file that holds a record.
use native.Mathlib.Omega.{arith}
use Rattle.checker.proofs.Laws.{few, up, inside, part_is}
use Rattle.checker.proofs.records.Listed.part.Goals as goal

pub bounds-self-i : goal.bounds-self-i
bounds-self-i c = let z = few _ _ _ c.args.self.now.laid in let h = c.requires in omega arith

pub bounds-self-i-2 : goal.bounds-self-i-2
bounds-self-i-2 c = let z = few _ _ _ c.args.self.now.laid in let h = c.requires in omega arith

pub offset_bounds-self-i : goal.offset_bounds-self-i
offset_bounds-self-i c = let z = few _ _ _ c.args.self.now.laid in let h = c.requires in omega arith

pub offset_bounds-self-i-2 : goal.offset_bounds-self-i-2
offset_bounds-self-i-2 c = let z = few _ _ _ c.args.self.now.laid in let h = c.requires in omega arith

pub slice_bounds-result-count : goal.slice_bounds-result-count
slice_bounds-result-count c = let z = up _ _ _ c.args.self.now.laid _ c.requires in omega arith

pub slice_bounds-result-start : goal.slice_bounds-result-start
slice_bounds-result-start c = let z = up _ _ _ c.args.self.now.laid _ c.requires in omega arith

pub slice_bounds-result-end : goal.slice_bounds-result-end
slice_bounds-result-end c = let z = inside _ _ _ c.args.self.now.laid _ c.requires in omega arith

pub returns : goal.returns
returns c = part_is _ _ _ c.args.self.now.laid _ c.requires
