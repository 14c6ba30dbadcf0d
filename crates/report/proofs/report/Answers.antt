-- The line and the bytes are those of the definition; where one of them fails, a front of both is written.
use Rattle.std.proofs.Common.{◌≡◌, replicate, ap, subst, ◌∙◌, refl, arith}
use Rattle.std.proofs.KnownBytes.{Appends-trans}
use Rattle.model.specs.Verdict.{Answer, answer, answer_of, verdict}
use Rattle.report.specs.Text.{AppendsFront, verdict_line, bytes_if}
use Rattle.report.proofs.Texts.{front_more, front_then, on_err}
use Rattle.report.proofs.Accepted.{of_front, text_said}
use Rattle.report.proofs.report.Goals as goal

pub returns-in_err-line-clause-err : goal.returns-in_err-line-clause-err
returns-in_err-line-clause-err g c =
    let v = verdict c.args.file.now 64 in
    let row : answer c.row-row.result.number c.row-row.result.a c.row-row.result.b ≡ answer_of v =
    c.row-row.ensures ∙ ap answer_of c.check.ensures.exact.0 in
    on_err _
    (front_more (bytes_if v c.args.file.now)
    (subst (λ (r : Answer). AppendsFront (g.W.Write.contents c.args.out.now) (g.W.Write.contents c.line.new.out) (verdict_line r.number r.a r.b)) row c.in_err-line.ensures.err))

pub returns-in_err-bytes-clause-err : goal.returns-in_err-bytes-clause-err
returns-in_err-bytes-clause-err g c =
    let r = c.row-row.result in
    let row : answer r.number r.a r.b ≡ answer_of (verdict c.args.file.now 64) = c.row-row.ensures ∙ ap answer_of c.check.ensures.exact.0 in
    on_err _
    (subst (AppendsFront (g.W.Write.contents c.args.out.now) (g.W.Write.contents c.bytes.new.out))
    (text_said c.args.file.now (replicate 64 0) c.check.new.answer r.number r.a r.b c.points.result row c.if-row-eq0.true refl c.check.ensures.exact.1 c.points.ensures.value)
    (front_then _ (verdict_line r.number r.a r.b) c.in_ok-line.ensures.ok (rw (of_front c.check.new.answer c.points.result (let z = c.check.auto.answer in let m = c.points.ensures.most in omega arith)) at c.in_err-bytes.ensures.err)))

pub returns-in_ok-bytes-clause-text : goal.returns-in_ok-bytes-clause-text
returns-in_ok-bytes-clause-text g c =
    let held = g.W.Write.contents in
    let r = c.row-row.result in
    let row : answer r.number r.a r.b ≡ answer_of (verdict c.args.file.now 64) = c.row-row.ensures ∙ ap answer_of c.check.ensures.exact.0 in
    rw (← text_said c.args.file.now (replicate 64 0) c.check.new.answer r.number r.a r.b c.points.result row c.if-row-eq0.true refl c.check.ensures.exact.1 c.points.ensures.value)
    (Appends-trans (held c.args.out.now) (held c.line.new.out) (held c.bytes.new.out) _ _ c.in_ok-line.ensures.ok (rw (of_front c.check.new.answer c.points.result (let z = c.check.auto.answer in let m = c.points.ensures.most in omega arith)) at c.in_ok-bytes.ensures.ok))
