-- Where a piece fails, a front of the line is written.
use Rattle.std.proofs.Common.{◌≡◌, ◌+◌, ◌-◌, length, codes, sym, subst, arith}
use Rattle.std.specs.Prelude.{slice_index}
use Rattle.std.specs.Io.KnownBytes.{Appends}
use Rattle.std.proofs.KnownBytes.{Appends-nil, Appends-trans}
use Rattle.std.proofs.lemmas.Result.{on_err_weaker}
use Rattle.report.specs.Text.{AppendsFront, piece, spaced}
use Rattle.report.proofs.Texts.{front_more, front_then, front_up, on_err, one_more}
use Rattle.report.proofs.bytes.Goals as goal

pub loop-p-init : goal.loop-p-init
unfolding spaced
loop-p-init g c = Appends-nil (g.W.Write.contents c.args.out.now)

pub returns-in_err-piece-clause-err : goal.returns-in_err-piece-clause-err
returns-in_err-piece-clause-err g c =
    let front = AppendsFront (g.W.Write.contents c.args.out.now) (g.W.Write.contents c.piece.new.out) in
    let v = slice_index c.args.answer.now in
    let p = c.loop-p.p in
    let rest : (p + 1) + (length c.args.answer.now - (p + 1)) ≡ length c.args.answer.now = omega arith in
    let here : front (spaced v (p + 1)) = subst front (sym (one_more v p)) (front_then _ (spaced v p) c.loop-p.invariant c.in_err-piece.ensures.err) in
    on_err _ (front_more (codes "\n") (subst (λ n. front (spaced v n)) rest (front_up v (p + 1) (length c.args.answer.now - (p + 1)) here)))

pub loop-p-preserved : goal.loop-p-preserved
loop-p-preserved g c =
    let v = slice_index c.args.answer.now in
    let p = c.loop-p.p in
    subst (Appends (g.W.Write.contents c.args.out.now) (g.W.Write.contents c.piece.new.out)) (sym (one_more v p))
    (Appends-trans _ _ _ (spaced v p) (piece p (v p)) c.loop-p.invariant c.in_ok-piece.ensures.ok)

pub returns-clause-err : goal.returns-clause-err
returns-clause-err g c =
    let v = slice_index c.args.answer.now in
    let all : c.loop-p.p ≡ length c.args.answer.now = omega arith in
    on_err_weaker c.put.result (λ e. front_then _ (spaced v (length c.args.answer.now)) (rw all at c.loop-p.invariant) e) c.put.ensures.err
