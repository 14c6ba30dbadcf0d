-- `shape::records::read` meets its contract.
use Prim.Native.Nat.{ℕ, ◌+◌, ◌*◌}
use mathlib.Core.Bool.{cond, ◌&&◌}
use mathlib.Core.Path.{◌≡◌, ◌∙◌, ap, ap₂, refl}
use native.Mathlib.Omega.{arith}
use lib.Dec.{ltb}
use Rattle.model.specs.File.{byte, number, size_at}
use Rattle.model.specs.Step.{edge}
use Rattle.model.specs.Truth.{𝟘, truth}
use Rattle.shape.specs.Meaning.{mask}
use Rattle.shape.proofs.Entries.{made_eq, mask_zeros}
use Rattle.shape.proofs.Lookups.{lined_none, lined_next}
use Rattle.shape.proofs.Recorded.{shared_read, summary_read}
use Rattle.shape.proofs.records.read.Goals as goal

pub loop-a-init : goal.loop-a-init
loop-a-init c = (lined_none _ _ _ refl (mask_zeros edge), lined_none _ _ _ refl (mask_zeros edge))

pub loop-a-preserved : goal.loop-a-preserved
loop-a-preserved c =
    let p = c.args.part.now in
    let w = c.args.width in
    let s = c.loop-a in
    let e = c.individual_at-at.ensures in
    let h = c.requires.size in
    let n = c.from-n.ensures in (
      lined_next (λ (x : ℕ). number w p (2 + (w + 1) * x)) (λ x. 0) s.masks s.a _ (omega arith) (c.mask_at.ensures ∙ ap (number w p) e) s.invariant.0,
      lined_next (λ (x : ℕ). byte p (2 + (w + 1) * x + w)) (λ x. 0) s.flags s.a _ (omega arith) (ap (λ (x : ℕ). byte p (x + w)) e) s.invariant.1,
    )

pub returns : goal.returns
returns c =
    let p = c.args.part.now in
    let w = c.args.width in
    let n = size_at p 0 in
    let s = c.loop-a in
    let e : c.from-n.result ≡ n = c.from-n.ensures in
    let i : s.a ≡ n = omega arith in
    let flag = λ (a : ℕ). byte p (2 + (w + 1) * a + w) in
    let flags : mask s.flags ≡ (λ a. cond (ltb a n) (flag a) 0) = s.invariant.1.1 ∙ ap (λ (k : ℕ). λ (a : ℕ). cond (ltb a k) (flag a) 0) i in
    made_eq e
    (s.invariant.0.1 ∙ ap (λ (k : ℕ). λ (a : ℕ). cond (ltb a k) (number w p (2 + (w + 1) * a)) 0) i)
    (summary_read s.flags n flag flags)
    (shared_read s.flags n flag flags)
    (c.links_of.ensures
    ∙ ap₂ (λ (k l : ℕ). λ (a b : ℕ). cond (ltb a k && ltb b k) (truth (byte p (l + k * a + b))) 𝟘) e (c.individual_at.ensures ∙ ap (λ (k : ℕ). 2 + (w + 1) * k) e))
