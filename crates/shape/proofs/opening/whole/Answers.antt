-- `shape::opening::whole` meets its contract.
use Prim.Native.Nat.{◌%◌, ◌/◌}
use mathlib.Core.Path.{◌∙◌, ◌≡◌, ap, refl, sym}
use native.Mathlib.Omega.{arith}
use borrow.Author.Rules.{rules}
use lib.Dec.{eqb}
use lib.ListN.{get_or, length}
use Rattle.model.specs.Step.{edge, from_u}
use Rattle.model.specs.Truth.{𝟙}
use Rattle.shape.proofs.Entries.{made_eq, no_entry, no_summary, same_entry, shared_at, shared_set, still_bit, summary_set}
use Rattle.shape.proofs.Grid.{one_in_row}
use Rattle.shape.specs.Meaning.{column, grid, shared, summary}
use Rattle.shape.proofs.opening.whole.Goals as goal

pub returns : goal.returns
returns c =
    let a = c.args in
    let f = get_or a.s.flags a.v 0 in
    let y : length a.s.flags ≡ edge = search rules in
    c.set_link.ensures
    ∙ made_eq refl refl
    (summary_set a.s.flags a.v (f % 2) (omega arith) ∙ no_entry (summary a.s.flags) a.v (eqb (f % 2 / 2 % 2) 1) (no_summary f))
    (shared_set a.s.flags a.v (f % 2) (omega arith) ∙ same_entry (shared a.s.flags) a.v (eqb (f % 2 % 2) 1) (still_bit f ∙ sym (shared_at a.s.flags a.v)))
    (ap (column a.v (from_u a.u 𝟙)) c.zero_row.ensures.says ∙ one_in_row a.u a.v (grid a.s.links))
