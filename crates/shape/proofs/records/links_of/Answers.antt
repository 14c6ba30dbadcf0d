-- `shape::records::links_of` meets its contract.
use Prim.Native.Nat.{ℕ, ◌+◌, ◌*◌}
use mathlib.Core.List.{List}
use mathlib.Core.Path.{ap, ◌∙◌}
use native.Mathlib.Omega.{arith}
use lib.ListN.{get_or}
use lib.Seq.{get_or-take, get_or-drop}
use Rattle.std.proofs.Common.{rules}
use Rattle.std.proofs.lemmas.List.{places}
use Rattle.model.specs.Truth.{truth}
use Rattle.model.specs.File.{byte}
use Rattle.shape.proofs.Merging.{upto_row, upto_zeros}
use Rattle.shape.proofs.records.links_of.Goals as goal

pub loop-a-init : goal.loop-a-init
loop-a-init c = upto_zeros _ _

pub loop-a-preserved : goal.loop-a-preserved
loop-a-preserved c =
    let g = c.args in
    let s = c.loop-a in
    let h = c.requires in
    upto_row (λ (x y : ℕ). truth (byte g.part.now (g.place + g.k * x + y))) g.k s.r _ s.a _ (omega arith) (omega arith) (omega arith) (search (rules, places))
    (λ b l.
    ap truth
    (ap (λ (t : List ℕ). get_or t b 0) c.copy_from_slice.ensures.after
    ∙ get_or-take _ _ b 0 (omega arith)
    ∙ get_or-drop (g.place + g.k * s.a) g.part.now b 0))
    s.invariant
