-- `shape::covering::covered` meets its contract.
use Prim.Native.Nat.{ℕ, ◌+◌, ◌*◌}
use mathlib.Core.Bool.{Bool, ◌&&◌}
use mathlib.Core.Path.{◌∙◌, ap, sym}
use Rattle.model.specs.File.{byte}
use Rattle.model.specs.Finite.{every}
use Rattle.model.specs.Truth.{truth, under}
use Rattle.shape.specs.Meaning.{grid}
use Rattle.shape.proofs.Recorded.{key_covered, row_covered, covered_read}
use Rattle.shape.proofs.covering.covered.Goals as goal

pub returns-then-keys_covered : goal.returns-then-keys_covered
returns-then-keys_covered c =
    let p = c.args.part.now in
    let w = c.args.width in
    let s = c.args.s.now in
    ap (λ (b : Bool). b && c.links_covered.result) (sym c.if-keys_covered.true ∙ c.keys_covered.ensures)
    ∙ ap (λ (b : Bool). every s.n (key_covered s.n s.masks s.flags s.links p w) && b)
    (c.links_covered.ensures ∙ ap (λ (place : ℕ). every s.n (λ a. every s.n (λ b. under (grid s.links a b) (truth (byte p (place + s.n * a + b)))))) c.individual_at.ensures)
    ∙ covered_read s.n s.masks s.flags s.links p w (c.if-s-from.false ∙ c.from.ensures)

pub returns-else-keys_covered : goal.returns-else-keys_covered
returns-else-keys_covered c =
    let p = c.args.part.now in
    let w = c.args.width in
    let s = c.args.s.now in
    c.if-keys_covered.false
    ∙ ap (λ (b : Bool). b && every s.n (row_covered s.n s.masks s.flags s.links p w)) (sym c.if-keys_covered.false ∙ c.keys_covered.ensures)
    ∙ covered_read s.n s.masks s.flags s.links p w (c.if-s-from.false ∙ c.from.ensures)
