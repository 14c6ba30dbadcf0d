-- `shape::opening::open` meets its contract.
use Prim.Native.Nat.{◌-◌, ◌/◌}
use mathlib.Core.Path.{◌∙◌, ap, refl, sym}
use Rattle.model.specs.Shape as M
use Rattle.model.specs.Step as S
use Rattle.shape.proofs.Stages.{divided_slot}
use Rattle.shape.specs.Meaning.{meaning}
use Rattle.shape.proofs.opening.open.Goals as goal

pub returns : goal.returns
returns c =
    let a = c.args in
    let o = c.settle-2.ensures in
    let v = (a.j - 1) / 2 in
    let W = meaning a.s.now in
    record {
      is =
          o.is
          ∙ ap (λ (U : M.Shape). S.settled U a.u v) (c.whole-2.ensures ∙ ap (λ (U : M.Shape). S.whole U a.u v) c.divided.ensures)
          ∙ divided_slot W a.u a.j v c.if-j-eq0.false c.if-j-eq1.false refl (sym c.opens.ensures ∙ c.if-not-opens.false);
      size = o.size;
      low = o.low;
    }
