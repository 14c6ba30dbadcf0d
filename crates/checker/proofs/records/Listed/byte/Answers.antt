-- The answer byte of a point.
use mathlib.Core.Path.{◌≡◌, sym, ◌∙◌}
use native.Mathlib.Omega.{arith}
use borrow.Author.Rules.{rules}
use Rattle.model.specs.Claim.{claim}
use Rattle.model.specs.Verdict.{all_listed, answer_byte, none_shared}
use Rattle.checker.proofs.records.Listed.byte.Goals as goal
use Rattle.checker.proofs.records.Listed.byte.Goals.{After-all_listed}

pub returns-then-not-lists_some : goal.returns-then-not-lists_some
unfolding answer_byte
returns-then-not-lists_some c = sym (rw (sym c.lists_some.ensures ∙ c.if-not-lists_some.true))

unshared : (c : After-all_listed) → c.all_listed.result ≡ all_listed (claim c.args.self.now.file.now) c.args.p none_shared
unshared c = c.all_listed.ensures none_shared (λ s r h k. search rules)

pub returns-then-all_listed : goal.returns-then-all_listed
unfolding answer_byte
returns-then-all_listed c =
    sym
    (rw (sym c.lists_some.ensures ∙ c.if-not-lists_some.false, sym (unshared (goal.at.returns-then-all_listed c).After-all_listed) ∙ c.if-all_listed.true, ← c.low_part-low.ensures.is))

pub returns : goal.returns
unfolding answer_byte
returns c =
    sym
    (rw (sym c.lists_some.ensures ∙ c.if-not-lists_some.false, sym (unshared (goal.at.returns c).After-all_listed) ∙ c.if-all_listed.false, ← c.low_part-low.ensures.is) (omega arith))
