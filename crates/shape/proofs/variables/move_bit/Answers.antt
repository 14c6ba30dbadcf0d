-- `shape::variables::move_bit` meets its contract.
use Prim.Native.Nat.{ℕ}
use mathlib.Core.Path.{◌≡◌, ◌∙◌, ap₂}
use native.Mathlib.Omega.{arith}
use borrow.Author.Rules.{rules}
use Rattle.model.specs.Finite.{is, put}
use Rattle.shape.proofs.Lookups.{lined_done, lined_next, lined_read, moved_beyond}
use Rattle.shape.specs.Meaning.{mask, ref}
use Rattle.shape.proofs.variables.move_bit.Goals as goal

pub loop-a-preserved : goal.loop-a-preserved
loop-a-preserved c =
    let s = c.loop-a in
    let m = c.args.masks.now in
    let new = λ (a : ℕ). put c.args.x (is (ref c.args.p) a) (mask m a) in
    let e : c.eq.result ≡ is (ref c.args.p) s.a = search rules in
    lined_next new (mask m) s.masks s.a _ (omega arith) (c.with_bit.ensures ∙ ap₂ (put c.args.x) e (lined_read new (mask m) s.masks s.a s.invariant)) s.invariant

pub returns : goal.returns
returns c =
    let g = c.args in
    let m = g.masks.now in
    let s = c.loop-a in
    record {
      whole = s.invariant.0;
      says = lined_done (λ (a : ℕ). put g.x (is (ref g.p) a) (mask m a)) (mask m) s.masks s.a (omega arith) (omega arith) (λ a h. moved_beyond g.p m g.x a (let z = s.invariant.0 in omega arith) c.requires.1 h) s.invariant;
    }
