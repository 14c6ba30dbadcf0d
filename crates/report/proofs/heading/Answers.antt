-- Where a piece fails, a front of the heading is written.
use Rattle.std.proofs.Common.{◌++◌, codes, decimal, sym, subst}
use Rattle.std.proofs.KnownBytes.{Appends-trans}
use Rattle.std.proofs.lemmas.Result.{on_err_weaker}
use Rattle.report.specs.Text.{AppendsFront}
use Rattle.report.proofs.Texts.{front_more, front_then, on_err, refused}
use Rattle.report.proofs.heading.Goals as goal

pub returns-in_err-put-clause-err : goal.returns-in_err-put-clause-err
returns-in_err-put-clause-err g c =
    on_err _ (subst (AppendsFront _ _) (sym (refused c.args.number c.if-number-eq0.false)) (front_more (codes " ") (front_more (decimal c.args.number) c.in_err-put.ensures.err)))

pub returns-in_err-decimal-clause-err : goal.returns-in_err-decimal-clause-err
returns-in_err-decimal-clause-err g c =
    on_err _ (subst (AppendsFront _ _) (sym (refused c.args.number c.if-number-eq0.false)) (front_more (codes " ") (front_then _ (codes "refuse ") c.in_ok-put.ensures.ok c.in_err-decimal.ensures.err)))

pub returns-clause-err : goal.returns-clause-err
returns-clause-err g c =
    on_err_weaker c.put-3.result (λ e. subst (AppendsFront _ _) (sym (refused c.args.number c.if-number-eq0.false)) (front_then _ (codes "refuse " ++ decimal c.args.number) (Appends-trans _ _ _ (codes "refuse ") (decimal c.args.number) c.in_ok-put.ensures.ok c.in_ok-decimal.ensures.ok) e)) c.put-3.ensures.err
