-- `shape::variables::fresh` meets its contract. A new individual that holds x alone.
use Prim.Native.Nat.{ℕ}
use mathlib.Core.Bool.{cond, false}
use mathlib.Core.Path.{◌∙◌, ◌≡◌, ap, ap₂, refl}
use native.Mathlib.Numerals.{add-one}
use native.Mathlib.Omega.{arith}
use borrow.Author.Rules.{rules}
use lib.Dec.{eqb}
use lib.ListN.{length}
use Rattle.model.specs.Step.{edge}
use Rattle.model.specs.Truth.{𝟘}
use Rattle.shape.proofs.Entries.{made_eq, mask_set, no_entry, shared_set, summary_set}
use Rattle.shape.proofs.MaskBits.{put_new}
use Rattle.shape.specs.Meaning.{row, summary}
use Rattle.shape.proofs.variables.fresh.Goals as goal

pub returns : goal.returns
returns c =
    let a = c.args in
    let n = a.s.n in
    let m = c.move_bit in
    let l = c.zero_column.ensures in
    let r = c.zero_row.ensures in
    let y : length a.s.flags ≡ edge = search rules in
    let z = m.ensures.whole in
    made_eq (add-one n)
    (mask_set m.new.masks n _ (omega arith) ∙ ap₂ (λ (v : ℕ) (g : ℕ → ℕ). λ (a : ℕ). cond (eqb a n) v (g a)) (c.alone.ensures ∙ put_new a.x) m.ensures.says)
    (summary_set a.s.flags n 0 (omega arith) ∙ no_entry (summary a.s.flags) n false refl)
    (shared_set a.s.flags n 0 (omega arith))
    (r.says ∙ ap (row n (λ b. 𝟘)) l.says)
