-- The decision: each way out is one case of the verdict, with both promises (Deciding).
use mathlib.Core.Path.{sym, ap, ◌∙◌}
use Rattle.claim.proofs.Handed.{is_fine}
use Rattle.checker.specs.Meaning.{verdict_of}
use Rattle.checker.proofs.Deciding.{Promised, laid, refused_by, unread, unentered, short, lost, accepts}
use Rattle.model.specs.Verdict as M
use Rattle.checker.proofs.check.Goals as goal
use Rattle.checker.proofs.check.Goals.{After-open_points}

pub invariant_of-listed : goal.invariant_of-listed
invariant_of-listed c = record { laid = laid c.in_ok-claim.ensures }

pub returns-in_err-claim-clause-exact : goal.returns-in_err-claim-clause-exact
returns-in_err-claim-clause-exact c =
    let d = (unread _ _ _ c.in_err-claim.ensures).0 in
    (ap verdict_of (refused_by _ _ c.from_residual.ensures.1) ∙ d.0, d.1)

pub returns-then-not-lists_some-clause-exact : goal.returns-then-not-lists_some-clause-exact
returns-then-not-lists_some-clause-exact c = (unentered _ _ (is_fine c.in_ok-claim.ensures) (sym c.lists_some.ensures ∙ c.if-not-lists_some.true)).0

pub returns-then-answer-points-clause-exact : goal.returns-then-answer-points-clause-exact
returns-then-answer-points-clause-exact c =
    (short _ _ (is_fine c.in_ok-claim.ensures) (sym c.lists_some.ensures ∙ c.if-not-lists_some.false) _ c.in_ok-claim.ensures.rest.points c.if-answer-points.true).0

pub returns-in-Some-clause-exact : goal.returns-in-Some-clause-exact
returns-in-Some-clause-exact c =
    (lost _ _ (is_fine c.in_ok-claim.ensures) (sym c.lists_some.ensures ∙ c.if-not-lists_some.false) _ c.in_ok-claim.ensures.rest.points c.if-answer-points.false _ _ c.in-Some.ensures).0

accepted : (c : After-open_points) → Promised c.args.file.now c.args.answer.now (M.accepted c.in_ok-claim.claim.shapes c.open_points.result) c.fill.new.answer
accepted c =
    accepts _ _ (is_fine c.in_ok-claim.ensures) (sym c.lists_some.ensures ∙ c.if-not-lists_some.false) _ c.in_ok-claim.ensures.rest.points c.if-answer-points.false c.in_default.ensures _ _ _ c.in_ok-claim.ensures.rest.shapes c.fill.ensures c.open_points.ensures

pub returns-clause-exact : goal.returns-clause-exact
returns-clause-exact c = (accepted c).0

pub returns-clause-safe : goal.returns-clause-safe
returns-clause-safe c = (accepted c).1
