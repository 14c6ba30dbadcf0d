-- The search for a lost outcome.
use Prim.Native.Nat.{◌<◌}
use mathlib.Core.Bool.{not}
use mathlib.Core.Path.{◌≡◌, refl, sym, ap, ◌∙◌}
use native.Mathlib.Omega.{arith}
use borrow.Author.Rules.{rules}
use Rattle.model.specs.Finite.{null, at, null_ref}
use Rattle.model.specs.Store.{Op}
use Rattle.model.specs.Shape.{Shape}
use Rattle.model.specs.File as file
use Rattle.model.specs.Claim.{claim, op_of}
use Rattle.model.specs.Verdict.{lost_from}
use Rattle.model.proofs.Search.{any_more}
use Rattle.model.proofs.Verdicts.{lost_none, lowest_none, lowest_at}
use Rattle.shape.specs.Meaning.{meaning}
use Rattle.shape.specs.Slots.{places}
use Rattle.shape.proofs.Numbered.{places_numbered}
use Rattle.checker.proofs.Outcomes.{lost_all, is_covered, is_lost}
use Rattle.checker.proofs.records.Listed.first_lost.Goals as goal
use Rattle.checker.proofs.records.Listed.first_lost.Goals.{After-places-count}

-- the statement and the shape that the places are of
op : After-places-count → Op
op c = let s = c.statement-here.result in op_of s.op s.x s.y s.s1 s.s2

shape : After-places-count → Shape
shape c = meaning c.shape-shape.result

as_listed : (c : After-places-count) → (claim c.args.self.now.file.now).op ((claim c.args.self.now.file.now).point c.claim.i) ≡ op c
unfolding op
as_listed c = ap (claim c.args.self.now.file.now).op (sym c.point.ensures.is) ∙ sym c.statement-here.ensures

count_is : (c : After-places-count) → c.places-count.result ≡ places (op c) (shape c).size
unfolding op shape
count_is c =
    let s = c.statement-here.result in
    c.places-count.ensures ∙ sym (places_numbered s.x s.y s.s1 s.s2 c.shape-shape.result.n s.op)

pub result-init : goal.result-init
result-init c = record { passed = search rules; found = refl; covered = lost_none (claim c.args.self.now.file.now) }

pub result-preserved : goal.result-preserved
unfolding op shape
result-preserved c =
    let w = c.result.invariant in
    let p = (goal.at.result-preserved c).After-places-count in
    record {
      passed = omega arith;
      found = w.found;
      covered =
          is_covered (claim c.args.self.now.file.now) (op p) (shape p) c.result.j w.covered _ _ c.in-Some.is c.outcome.ensures c.listed.t
          (rw (← c.args.self.now.laid.shapes) c.listed-test.true)
          (sym c.covers.ensures ∙ c.if-covers.true);
    }

pub claim-preserved : goal.claim-preserved
unfolding op shape
claim-preserved c =
    let f = c.args.self.now.file.now in
    let v = c.claim.invariant in
    let w = c.result.invariant in
    let p = (goal.at.claim-preserved c).After-places-count in
    let e : c.result.j ≡ places (op p) (shape p).size = (let x = w.passed in let y = c.result-test.false in omega arith) ∙ count_is p in
    let kept : lost_from (claim f) c.claim.i ≡ null = sym (lost_all (claim f) (op p) (shape p) c.claim.i (as_listed p) (sym c.shape-shape.ensures.is)) ∙ (rw e at w.covered) in
    record {
      passed = omega arith;
      found = w.found ∙ v.found;
      covered = any_more _ c.claim.i v.covered (ap (λ r. not (null_ref r)) kept);
    }

pub returns-after-claim : goal.returns-after-claim
returns-after-claim c =
    let v = c.claim.invariant in
    let e : c.claim.i ≡ file.shapes c.args.self.now.file.now = rw (← c.args.self.now.laid.shapes) (let x = v.passed in let y = c.claim-test.false in omega arith) in
    rw v.found (lowest_none (claim c.args.self.now.file.now) (rw e at v.covered))

pub returns-after-listed : goal.returns-after-listed
unfolding op shape
returns-after-listed c =
    let f = c.args.self.now.file.now in
    let p = (goal.at.returns-after-listed c).After-places-count in
    let w = c.result.invariant in
    let v = c.claim.invariant in
    let u = c.listed.invariant in
    let l = c.args.self.now.laid in
    let j_low : c.result.j < places (op p) (shape p).size = rw (← count_is p) c.result-test.true in
    let t_all : c.listed.t ≡ file.shapes f = rw (← l.shapes) (let x = u.passed in let y = c.listed-test.false in omega arith) in
    let out : lost_from (claim f) c.claim.i ≡ at c.in-Some.outcome.successor =
    sym (lost_all (claim f) (op p) (shape p) c.claim.i (as_listed p) (sym c.shape-shape.ensures.is))
    ∙ is_lost (claim f) (op p) (shape p) c.result.j w.covered _ _ c.in-Some.is c.outcome.ensures (rw t_all at u.uncovered) (places (op p) (shape p).size) j_low
    in
    (lowest_at (claim f) c.claim.i _ (rw (← l.shapes) c.claim-test.true) v.covered out, out)
