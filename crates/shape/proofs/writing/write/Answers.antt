-- `shape::writing::write` meets its contract.
use mathlib.Core.Path.{◌∙◌, ap}
use Prim.Native.Nat.{ℕ, ◌+◌, ◌*◌}
use Rattle.shape.proofs.Laying.{written_is, written_length}
use Rattle.shape.proofs.writing.write.Goals as goal

pub returns-clause-record : goal.returns-clause-record
returns-clause-record c =
    let g = c.args in
    let s = g.s.now in
    let e = c.individual_at-place.ensures in
    rw e (written_is s.masks s.flags s.links g.width g.point s.n g.out.now _ _ c.requires.3 c.individuals.ensures (rw e at c.rows.ensures))

pub returns-clause-length : goal.returns-clause-length
returns-clause-length c =
    let s = c.args.s.now in
    ap (λ (p : ℕ). p + s.n * s.n) c.individual_at-place.ensures
    ∙ written_length s.masks s.flags s.links c.args.width c.args.point s.n
