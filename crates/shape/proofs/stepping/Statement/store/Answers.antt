-- `shape::stepping::Statement::store` meets its contract.
use Prim.Native.Nat.{ℕ}
use mathlib.Core.Path.{◌∙◌, ap}
use Rattle.model.specs.Finite.{Ref}
use Rattle.model.specs.Shape as M
use Rattle.model.specs.Step as S
use Rattle.shape.specs.Meaning.{meaning}
use Rattle.shape.specs.Slots.{store_slot}
use Rattle.shape.proofs.stepping.Statement.store.Goals as goal

pub returns : goal.returns
returns c =
    let r = c.store.ensures in
    let g = c.args in
    let W = meaning g.s.now in
    record {
      is =
          r.is
          ∙ ap (λ (y : Ref). store_slot W c.in-At.u y g.j) c.holder-2.ensures.is
          ∙ ap (λ (x : Ref). S.at_holder x (λ (u : ℕ). store_slot W u (M.holder W g.self.y) g.j)) c.in-At.ensures.is;
      size = r.size;
    }
