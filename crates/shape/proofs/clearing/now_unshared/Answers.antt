-- `shape::clearing::now_unshared` meets its contract.
use mathlib.Core.Bool.{false}
use mathlib.Core.Path.{◌≡◌, ◌∙◌, ap, refl}
use native.Mathlib.Omega.{arith}
use borrow.Author.Tests.{eq-eqb, ne_eqb}
use lib.Dec.{eqb}
use Rattle.shape.proofs.Entries.{made_eq}
use Rattle.shape.proofs.Grid.{column_same}
use Rattle.shape.proofs.Stages.{sure_all, unshared}
use Rattle.shape.specs.Meaning.{grid, meaning}
use Rattle.model.specs.Shape as M
use Rattle.model.specs.Step as S
use Rattle.shape.proofs.clearing.now_unshared.Goals as goal
use Rattle.shape.proofs.clearing.now_unshared.Goals.{then-ones-eq1, else-ones-eq1}

pub returns : goal.returns
returns c =
    let s = c.args.s in
    let t = c.args.t in
    let W = meaning s in
    let i = c.count_into-ones.result in
    let sured : meaning c.if-ones-eq1.s ≡ S.with_n W (S.into t (S.sure_if (eqb i 1)) W.n) =
    elim c.if-ones-eq1.branch [
      | then-ones-eq1 w ↦ ap meaning w.s-is ∙ rw (eq-eqb i 1 w.if-ones-eq1.true) (made_eq refl refl refl refl (w.sure_column.ensures.says ∙ sure_all t s.links))
      | else-ones-eq1 w ↦ ap meaning w.s-is ∙ rw (ne_eqb i 1 w.if-ones-eq1.false) (made_eq refl refl refl refl (column_same t (grid s.links)))
    ]
    in
    let e = c.set_shared.ensures ∙ ap (λ (U : M.Shape). S.with_n U (S.sharing t false U.n)) sured in
    record {
      is = unshared W t i (meaning c.set_shared.new.self) c.count_into-ones.ensures c.if-ones-gt1.false e;
      size = let z : c.set_shared.new.self.n ≡ s.n = ap (λ (U : M.Shape). U.size) e in omega arith;
    }
