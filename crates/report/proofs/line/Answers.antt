-- Where a piece fails, a front of the line is written.
use Rattle.std.proofs.Common.{◌++◌, codes, decimal}
use Rattle.std.proofs.KnownBytes.{Appends-trans}
use Rattle.std.proofs.lemmas.Result.{on_err_weaker}
use Rattle.report.specs.Text.{heading}
use Rattle.report.proofs.Texts.{front_more, front_then, on_err}
use Rattle.report.proofs.line.Goals as goal

pub returns-in_err-heading-clause-err : goal.returns-in_err-heading-clause-err
returns-in_err-heading-clause-err g c =
    let a = decimal c.args.row.a in
    let b = decimal c.args.row.b in
    on_err _ (front_more (codes "\n") (front_more b (front_more (codes " ") (front_more a c.in_err-heading.ensures.err))))

pub returns-in_err-decimal-clause-err : goal.returns-in_err-decimal-clause-err
returns-in_err-decimal-clause-err g c =
    let b = decimal c.args.row.b in
    on_err _ (front_more (codes "\n") (front_more b (front_more (codes " ") (front_then _ (heading c.args.row.number) c.in_ok-heading.ensures.ok c.in_err-decimal.ensures.err))))

pub returns-in_err-put-clause-err : goal.returns-in_err-put-clause-err
returns-in_err-put-clause-err g c =
    let h = heading c.args.row.number in
    let a = decimal c.args.row.a in
    let b = decimal c.args.row.b in
    on_err _ (front_more (codes "\n") (front_more b (front_then _ (h ++ a) (Appends-trans _ _ _ h a c.in_ok-heading.ensures.ok c.in_ok-decimal.ensures.ok) c.in_err-put.ensures.err)))

pub returns-in_err-decimal-2-clause-err : goal.returns-in_err-decimal-2-clause-err
returns-in_err-decimal-2-clause-err g c =
    let h = heading c.args.row.number in
    let a = decimal c.args.row.a in
    on_err _ (front_more (codes "\n") (front_then _ (h ++ a ++ codes " ")
    (Appends-trans _ _ _ (h ++ a) (codes " ") (Appends-trans _ _ _ h a c.in_ok-heading.ensures.ok c.in_ok-decimal.ensures.ok) c.in_ok-put.ensures.ok)
    c.in_err-decimal-2.ensures.err))

pub returns-clause-err : goal.returns-clause-err
returns-clause-err g c =
    let h = heading c.args.row.number in
    let a = decimal c.args.row.a in
    let b = decimal c.args.row.b in
    on_err_weaker c.put-2.result
    (λ e. front_then _ (h ++ a ++ codes " " ++ b)
    (Appends-trans _ _ _ (h ++ a ++ codes " ") b
    (Appends-trans _ _ _ (h ++ a) (codes " ") (Appends-trans _ _ _ h a c.in_ok-heading.ensures.ok c.in_ok-decimal.ensures.ok) c.in_ok-put.ensures.ok)
    c.in_ok-decimal-2.ensures.ok)
    e)
    c.put-2.ensures.err
