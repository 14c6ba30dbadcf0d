-- Where the number or the space fails, a front of both is written.
use Rattle.std.proofs.Common.{codes, decimal, sym, subst}
use Rattle.std.proofs.lemmas.Result.{on_err_weaker}
use Rattle.report.specs.Text.{AppendsFront}
use Rattle.report.proofs.Texts.{front_more, front_then, on_err, later}
use Rattle.report.proofs.piece.Goals as goal

pub returns-in_err-put-clause-err : goal.returns-in_err-put-clause-err
returns-in_err-put-clause-err g c =
    on_err _ (subst (AppendsFront _ _) (sym (later c.args.p c.args.byte c.if-p-eq0.false)) (front_more (decimal c.args.byte) c.in_err-put.ensures.err))

pub returns-clause-err : goal.returns-clause-err
returns-clause-err g c =
    on_err_weaker c.decimal-2.result
    (λ e. subst (AppendsFront _ _) (sym (later c.args.p c.args.byte c.if-p-eq0.false)) (front_then _ (codes " ") c.in_ok-put.ensures.ok e))
    (rw c.from-n.ensures at c.decimal-2.ensures.err)
