-- `shape::opening::divided` meets its contract. A second individual like v, the last one.
use mathlib.Core.Path.{◌∙◌, ◌≡◌, sym}
use native.Mathlib.Numerals.{add-one}
use native.Mathlib.Omega.{arith}
use borrow.Author.Rules.{rules}
use lib.ListN.{get_or, length}
use Rattle.model.specs.Step.{edge}
use Rattle.shape.proofs.Entries.{copied_entry, made_eq, mask_at, mask_set, shared_at, shared_set, summary_at, summary_set}
use Rattle.shape.specs.Meaning.{mask, shared, summary}
use Rattle.shape.proofs.opening.divided.Goals as goal

pub returns : goal.returns
returns c =
    let a = c.args in
    let n = a.s.n in
    let y : length a.s.flags ≡ edge = search rules in
    let z : length a.s.masks ≡ edge = search rules in
    made_eq (add-one n)
    (mask_set a.s.masks n (get_or a.s.masks a.v 0) (omega arith) ∙ copied_entry (mask a.s.masks) n a.v _ (mask_at a.s.masks a.v))
    (summary_set a.s.flags n (get_or a.s.flags a.v 0) (omega arith) ∙ copied_entry (summary a.s.flags) n a.v _ (sym (summary_at a.s.flags a.v)))
    (shared_set a.s.flags n (get_or a.s.flags a.v 0) (omega arith) ∙ copied_entry (shared a.s.flags) n a.v _ (sym (shared_at a.s.flags a.v)))
    c.copy_links.ensures.says
