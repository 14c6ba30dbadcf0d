-- `shape::variables::holder` meets its contract.
use mathlib.Core.Path.{◌≡◌, ap, ◌∙◌}
use native.Mathlib.Omega.{arith}
use borrow.Author.Rules.{rules}
use lib.ListN.{length, take}
use Rattle.std.proofs.Common.{tests}
use Rattle.std.specs.Prelude.{position}
use Rattle.std.proofs.lemmas.Iterator.{YieldsList-from_slice}
use Rattle.std.proofs.lemmas.Iterator.Search.{position_from_yields_List}
use Rattle.model.specs.Finite.{bit}
use Rattle.model.specs.Step.{edge}
use Rattle.shape.proofs.Lookups.{placed, first_at_position}
use Rattle.shape.proofs.variables.holder.Goals as goal

pub returns-clause-is : goal.returns-clause-is
returns-clause-is c =
    let s = c.args.s.now in
    let l : length s.masks ≡ edge = search rules in
    let found : c.position-held.result ≡ position (bit c.args.x) (take s.n s.masks) =
    position_from_yields_List (bit c.args.x) _ _ c.position-held.result c.position-held.ensures.ran (YieldsList-from_slice _ c.iter.ensures.rest) (λ x b q k. search (rules, tests)) in
    let e : c.map_or.result ≡ placed c.position-held.result = search rules in
    first_at_position (bit c.args.x) s.masks s.n c.map_or.result (omega arith) (e ∙ ap placed found)
