-- `shape::linking::tie` meets its contract.
use Prim.Native.Nat.{ℕ}
use mathlib.Core.Path.{◌∙◌}
use native.Mathlib.Omega.{arith}
use borrow.Author.Rules.{rules}
use Rattle.model.specs.Truth.{may, must}
use Rattle.shape.proofs.Tests.{any_all}
use Rattle.shape.specs.Meaning.{grid}
use Rattle.shape.proofs.linking.tie.Goals as goal

pub returns-then-second : goal.returns-then-second
returns-then-second c =
    let a = c.args in
    let e = c.any_into-held.ensures ∙ any_all a.s.n (λ (b : ℕ). may (grid a.s.links b a.w)) (omega arith) in
    search rules

pub returns : goal.returns
returns c =
    let a = c.args in
    let e = c.any_into-free.ensures ∙ any_all a.s.n (λ (b : ℕ). must (grid a.s.links b a.w)) (omega arith) in
    search rules
