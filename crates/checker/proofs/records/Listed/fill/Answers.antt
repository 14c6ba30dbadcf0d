-- The answer bytes, one after the other.
use mathlib.Core.List.{◌++◌}
use mathlib.Core.Path.{◌≡◌, ap, ◌∙◌}
use native.Mathlib.Omega.{arith}
use borrow.Author.Rules.{rules}
use lib.ListN.{take, drop}
use Rattle.std.proofs.lemmas.List.{append-nil, drop_all, length-take-le}
use Rattle.model.specs.Claim.{claim}
use Rattle.model.specs.Verdict.{answer_byte, table}
use Rattle.model.proofs.Tables.{table_none, table_store}
use Rattle.checker.proofs.records.Listed.fill.Goals as goal

pub loop-p-init : goal.loop-p-init
loop-p-init c = record { passed = search rules; whole = length-take-le _ _ c.requires.1; bytes = table_none _ _ }

pub loop-p-preserved : goal.loop-p-preserved
loop-p-preserved c =
    let w = c.loop-p in
    let z = w.invariant.whole in
    record {
      passed = omega arith;
      whole = z;
      bytes = rw (c.byte.ensures, w.invariant.bytes) (table_store (answer_byte (claim c.args.self.now.file.now)) _ w.p (omega arith));
    }

pub returns : goal.returns
returns c =
    let w = c.loop-p in
    let z = w.invariant.whole in
    let e : w.p ≡ c.args.n = omega arith in
    let f = table (answer_byte (claim c.args.self.now.file.now)) in
    ap (λ l. l ++ drop c.args.n c.args.answer.now)
    (w.invariant.bytes ∙ ap (λ p. f p ++ drop p (take c.args.n c.args.answer.now)) e ∙ ap (λ l. f c.args.n ++ l) (drop_all c.args.n (take c.args.n c.args.answer.now) (omega arith)) ∙ append-nil (f c.args.n))
