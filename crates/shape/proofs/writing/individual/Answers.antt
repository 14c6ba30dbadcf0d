-- `shape::writing::individual` meets its contract.
use Prim.Native.Nat.{◌%◌}
use mathlib.Core.Path.{◌≡◌}
use native.Mathlib.Omega.{arith}
use Rattle.shape.proofs.Laying.{laid_two, laid_three}
use Rattle.shape.proofs.writing.individual.Goals as goal
use Rattle.shape.proofs.writing.individual.Goals.{then-width-eq2, else-width-eq2}

pub returns : goal.returns
returns c =
    let g = c.args in
    let h = c.requires in
    elim c.if-width-eq2.branch [
      | then-width-eq2 w ↦ (
          let e = w.if-width-eq2.true in
          rw (w.out-is, e, c.to_le_bytes.ensures) (laid_three g.out.now g.at _ _ (g.f % 4) (omega arith)))
      | else-width-eq2 w ↦ (
          let d = w.if-width-eq2.false in
          let e : g.width ≡ 1 = omega arith in
          rw (w.out-is, e, c.to_le_bytes.ensures) (laid_two g.out.now g.at _ (g.f % 4) (omega arith)))
    ]
