-- Whether every shape listed at a point passes.
use Prim.Native.Nat.{ℕ, ◌<◌}
use mathlib.Core.Bool.{Bool, true, not, ◌||◌}
use mathlib.Core.List.{List}
use mathlib.Core.Logic.{◌≢◌}
use mathlib.Core.Path.{◌≡◌, sym, ◌∙◌}
use borrow.Author.Rules.{rules}
use native.Mathlib.Omega.{arith}
use lib.Dec.{eqb}
use borrow.Author.Tests.{eq-eqb, ne_eqb}
use Rattle.model.specs.Shape as M
use Rattle.model.specs.File as file
use Rattle.model.specs.Claim.{claim}
use Rattle.model.specs.Verdict.{all_listed}
use Rattle.model.proofs.Bools.{clash, false_of}
use Rattle.model.proofs.Search.{every_more, every_elim}
use Rattle.shape.specs.declared.Shape.{Shape}
use Rattle.shape.specs.Meaning.{meaning}
use Rattle.checker.specs.Laid.{Holds}
use Rattle.checker.proofs.records.Listed.all_listed.Goals as goal

-- what the test of shape i says of it in the claim
module _ (f : List ℕ) (i p : ℕ) (T : M.Shape → Bool) where
  abbrev passes : Bool
  passes = not (eqb ((claim f).point i) p) || T ((claim f).shape i)

  here : {q : ℕ} {s : Shape} {r : Bool} → q ≡ (claim f).point i → q ≡ p → Holds ((claim f).shape i) s → r ≡ T (meaning s) → passes ≡ r
  here a b h e = rw (eq-eqb _ p (sym a ∙ b), ← h.is) (sym e)

  elsewhere : {q : ℕ} → q ≡ (claim f).point i → q ≢ p → passes ≡ true
  elsewhere a n = rw (ne_eqb _ p (λ e. n (a ∙ e)))

pub returns-then-not-test : goal.returns-then-not-test
unfolding all_listed
returns-then-not-test g c T k =
    let f = c.args.self.now.file.now in
    let w = c.loop-i in
    let h : w.i < file.shapes f = rw (← c.args.self.now.laid.shapes) c.loop-i-test.true in
    let t = here f w.i c.args.p T c.point.ensures.is c.if-point-p.false c.shape.ensures (k _ _ (let z = c.shape.ensures.small in omega arith) (search rules)) in
    sym (false_of (λ y. clash (every_elim (file.shapes f) _ y w.i h) (t ∙ c.if-not-test.true)))

pub loop-i-preserved-then-point-p : goal.loop-i-preserved-then-point-p
loop-i-preserved-then-point-p g c = (omega arith, λ T k. every_more _ c.loop-i.i (c.loop-i.invariant.1 T k) (elsewhere _ _ _ T c.point.ensures.is c.if-point-p.true))

pub loop-i-preserved : goal.loop-i-preserved
loop-i-preserved g c =
    (omega arith, λ T k. every_more _ c.loop-i.i (c.loop-i.invariant.1 T k) (here _ _ _ T c.point.ensures.is c.if-point-p.false c.shape.ensures (k _ _ (let z = c.shape.ensures.small in omega arith) (search rules)) ∙ c.if-not-test.false))

pub returns : goal.returns
unfolding all_listed
returns g c T k =
    let w = c.loop-i in
    let e : w.i ≡ file.shapes c.args.self.now.file.now = rw (← c.args.self.now.laid.shapes) (omega arith) in
    sym (rw e at w.invariant.1 T k)
