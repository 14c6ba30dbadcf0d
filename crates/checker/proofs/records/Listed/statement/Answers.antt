-- The statement at a point, from the five bytes of its record.
use Prim.Native.Nat.{◌+◌, ◌*◌}
use mathlib.Core.Path.{ap, ◌∙◌}
use native.Mathlib.Nat.{add-zero}
use native.Mathlib.Omega.{arith}
use Rattle.model.specs.File.{byte}
use Rattle.checker.proofs.Laws.{byte_of, points_low, statement_there, x_low, y_low, statement_is}
use Rattle.checker.proofs.records.Listed.statement.Goals as goal

pub overflow_mul-at : goal.overflow_mul-at
overflow_mul-at c = let z = points_low _ _ _ c.args.self.now.laid in let h = c.requires in omega arith

pub overflow_add-at : goal.overflow_add-at
overflow_add-at c = let z = points_low _ _ _ c.args.self.now.laid in let h = c.requires in omega arith

pub overflow_add-record : goal.overflow_add-record
overflow_add-record c = let z = points_low _ _ _ c.args.self.now.laid in let h = c.requires in omega arith

pub slice_bounds-record-end : goal.slice_bounds-record-end
slice_bounds-record-end c = let z = statement_there _ _ _ c.args.self.now.laid _ c.requires in omega arith

pub invariant_of-result : goal.invariant_of-result
invariant_of-result c =
    let e = byte_of c.args.self.now.file.now (7 + 5 * c.args.p) 5 in
    let l = c.args.self.now.laid in
    record { x_low = rw (e 1 (omega arith)) (x_low _ _ _ l _ c.requires); y_low = rw (e 2 (omega arith)) (y_low _ _ _ l _ c.requires) }

pub returns : goal.returns
returns c =
    let f = c.args.self.now.file.now in
    let at = 7 + 5 * c.args.p in
    let e = byte_of f at 5 in
    rw (c.from.ensures, c.from-2.ensures, e 0 (omega arith) ∙ ap (byte f) (add-zero at), e 1 (omega arith), e 2 (omega arith), e 3 (omega arith), e 4 (omega arith)) (statement_is _ _ _ c.args.self.now.laid _ c.requires)
