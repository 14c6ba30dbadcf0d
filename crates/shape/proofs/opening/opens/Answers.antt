-- `shape::opening::opens` meets its contract.
use Prim.Native.Nat.{ℕ}
use mathlib.Core.Bool.{not}
use mathlib.Core.Path.{◌∙◌, ap}
use native.Mathlib.Omega.{arith}
use borrow.Author.Tests.{eq-eqb}
use Rattle.model.specs.Truth.{must}
use Rattle.shape.proofs.Tests.{any_all}
use Rattle.shape.specs.Meaning.{grid}
use Rattle.shape.proofs.opening.opens.Goals as goal

pub returns-then-j-eq0 : goal.returns-then-j-eq0
returns-then-j-eq0 c =
    let a = c.args in
    let s = a.s.now in
    ap not (c.any_from.ensures ∙ any_all s.n (λ (b : ℕ). must (grid s.links a.u b)) (omega arith)) ∙ rw (eq-eqb a.j 0 c.if-j-eq0.true)
