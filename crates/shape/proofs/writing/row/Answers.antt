-- `shape::writing::row` meets its contract.
use Prim.Native.Nat.{ℕ, ◌+◌, ◌*◌}
use mathlib.Core.Path.{◌≡◌, ap, ◌∙◌}
use native.Mathlib.Omega.{arith}
use borrow.Rule.Slice.PartMut.{mid_len}
use Rattle.std.proofs.Common.{rules}
use Rattle.std.proofs.lemmas.List.{places}
use Rattle.model.specs.Finite.{each}
use Rattle.model.specs.Step.{edge}
use Rattle.model.specs.Truth.{code, truth}
use Rattle.shape.specs.Writing.{laid, link_byte}
use Rattle.shape.proofs.Laying.{laid_none, row_next, code_is}
use Rattle.shape.proofs.writing.row.Goals as goal

pub loop-b-init : goal.loop-b-init
loop-b-init c = laid_none _ _

pub loop-b-preserved : goal.loop-b-preserved
loop-b-preserved c =
    let g = c.args in
    let h = c.requires in
    let w = c.loop-b in
    row_next g.links.now g.a g.out.now w.out g.at w.b _ (omega arith) c.loop-b.auto.out h.0 (omega (arith, mid_len (g.a * edge) (g.a * edge + g.k) g.links.now (omega arith)))
    (c.min.ensures ∙ code_is _ ∙ ap (λ (x : ℕ). code (truth x)) (search (rules, places))) w.invariant

pub returns : goal.returns
returns c =
    let g = c.args in
    let h = c.requires in
    let w = c.loop-b in
    let e : w.b ≡ g.k = omega (arith, mid_len (g.a * edge) (g.a * edge + g.k) g.links.now (omega arith)) in
    w.invariant ∙ ap (λ (n : ℕ). laid g.out.now g.at (each n (link_byte g.links.now g.a))) e
