-- One more write adds its bytes behind those that are written; where one fails, those stand before the rest.
use Rattle.std.proofs.Common.{◌≡◌, ◌==◌, false, ℕ, zero, suc, ◌-◌, ◌<◌, List, [], ◌++◌, length, length-append, length-drop, take, take_all, drop, append_assoc, refl, sym, ap, subst, ◌∙◌, arith}
use Rattle.std.specs.Prelude.{Option}
use Rattle.std.specs.Io.KnownBytes.{Appends}
use Rattle.std.proofs.Math.Seq.{take-append_seam}
use Rattle.std.proofs.KnownBytes.{Appends-nil, Appends-trans, Appends-kept}
use Rattle.std.proofs.lemmas.List.{append-nil, take-append-drop}
use Rattle.report.specs.Text.{AppendsFront}
use Rattle.report.proofs.Texts.{on_err}
use Rattle.report.proofs.put.Goals as goal

onward : (n : ℕ) (all written rest : List ℕ) → all ≡ written ++ rest → all ≡ (written ++ take n rest) ++ take (length rest - n) (drop n rest)
onward n all written rest e =
    e
    ∙ ap (λ l. written ++ l) (sym (take-append-drop n rest) ∙ ap (λ l. take n rest ++ l) (sym (take_all (length rest - n) (drop n rest) (omega (arith, length-drop n rest)))))
    ∙ sym (append_assoc written (take n rest) (take (length rest - n) (drop n rest)))

front : {a b : Option (List ℕ)} {all : List ℕ} (written rest : List ℕ) → all ≡ written ++ rest → Appends a b written → 0 < length rest → AppendsFront a b all
front {a} {b} {all} written rest e w l = record {
  many = length written;
  short = rw e (omega (arith, length-append written rest));
  front = rw (e, take-append_seam written rest) w;
}

some : (n : ℕ) → false ≡ (n == 0) → 0 < n
some zero e = absurd cc
some (suc n) e = omega arith

pub loop-rest-init : goal.loop-rest-init
loop-rest-init g c = record { written = []; all = refl; appended = Appends-nil (g.W.Write.contents c.args.out.now) }

pub loop-rest-preserved : goal.loop-rest-preserved
loop-rest-preserved g c =
    let w = c.loop-rest.invariant in
    record {
      written = w.written ++ take c.in_ok-more.more c.loop-rest.rest.now;
      all = onward c.in_ok-more.more c.args.bytes.now w.written c.loop-rest.rest.now w.all;
      appended = Appends-trans _ _ _ w.written (take c.in_ok-more.more c.loop-rest.rest.now) w.appended c.in_ok-more.ensures.bytes;
    }

pub returns-in_err-more-clause-err : goal.returns-in_err-more-clause-err
returns-in_err-more-clause-err g c =
    let w = c.loop-rest.invariant in
    on_err _ (front w.written c.loop-rest.rest.now w.all (Appends-kept _ _ _ w.written w.appended c.in_err-more.ensures.bytes) (some _ c.loop-rest-test.ensures))

pub returns-then-more-eq0-clause-err : goal.returns-then-more-eq0-clause-err
returns-then-more-eq0-clause-err g c =
    let w = c.loop-rest.invariant in
    let e : w.written ++ take c.in_ok-more.more c.loop-rest.rest.now ≡ w.written = rw c.if-more-eq0.true (append-nil w.written) in
    front w.written c.loop-rest.rest.now w.all
    (subst (Appends _ _) e (Appends-trans _ _ _ w.written (take c.in_ok-more.more c.loop-rest.rest.now) w.appended c.in_ok-more.ensures.bytes))
    (some _ c.loop-rest-test.ensures)
