-- "So a shape has at most V + 2 individuals": each has its lowest variable, or has none and is unshared, or shared; and no two
-- have the same of these. So a working shape has at most 11.
use Prim.Native.Nat.{ℕ, suc, ◌+◌, ◌≤◌, ◌<◌}
use mathlib.Core.Bool.{Bool, true, false}
use mathlib.Core.Path.{◌≡◌, refl, sym, ◌∙◌}
use native.Mathlib.Omega.{arith}
use Rattle.model.specs.Finite.{Ref, null, at, first, bit}
use Rattle.model.specs.Store.{Op}
use Rattle.model.specs.Shape.{Shape, Allowed}
use Rattle.model.specs.Step.{edge, results}
use Rattle.model.specs.Format.{version_1}
use Rattle.model.proofs.Bools.{clash, by}
use Rattle.model.proofs.Search.{Firstly, nowhere, first_at, firstly}
use Rattle.model.proofs.Lists.{All, all_weak}
use Rattle.model.proofs.Masks.{no_bits}
use Rattle.model.proofs.Accepted.{Uses}
use Rattle.sound.proofs.Keys.{Keyed, ascend_keyed}
use Rattle.sound.proofs.Pigeons.{few}
use Rattle.sound.proofs.Shapes.{results_small}

module _ (vars : ℕ) (W : Shape) (h : Allowed vars W) where
  keyed : Keyed W
  keyed = ascend_keyed W h.ascend

  spot : Ref → Bool → ℕ
  spot (at x) s = x
  spot null true = suc vars
  spot null false = vars

  abbrev lowest : ℕ → Ref
  lowest a = first vars (λ x. bit x (W.mask a))

  spot_low : (r : Ref) (s : Bool) (a : ℕ) → Firstly vars (λ x. bit x (W.mask a)) r → spot r s < vars + 2
  unfolding spot
  spot_low null true a f = omega arith
  spot_low null false a f = omega arith
  spot_low (at x) s a (first_at l q) = omega arith

  -- with no variable below V there is none, and the mask is 0
  empty : (a : ℕ) → a < W.size → ((x : ℕ) → x < vars → bit x (W.mask a) ≡ false) → W.mask a ≡ 0
  empty a l f =
      no_bits (W.mask a) (W.mask a) (omega arith) (λ x.
      by (bit x (W.mask a)) (λ q. clash q (f x (h.held.known x a l q))) (λ q. q))

  spot_apart : (a b : ℕ) → a < W.size → b < W.size → (r t : Ref) (s s' : Bool) → Firstly vars (λ x. bit x (W.mask a)) r → Firstly vars (λ x. bit x (W.mask b)) t → W.n.shared a ≡ s → W.n.shared b ≡ s' → spot r s ≡ spot t s' → a ≡ b
  unfolding spot
  spot_apart a b l k null null true true (nowhere f) (nowhere g) p q e = keyed a b l k (empty a l f ∙ sym (empty b k g)) (p ∙ sym q)
  spot_apart a b l k null null true false f g p q e = absurd (omega arith)
  spot_apart a b l k null null false true f g p q e = absurd (omega arith)
  spot_apart a b l k null null false false (nowhere f) (nowhere g) p q e = keyed a b l k (empty a l f ∙ sym (empty b k g)) (p ∙ sym q)
  spot_apart a b l k null (at y) true s' f (first_at m z) p q e = absurd (omega arith)
  spot_apart a b l k null (at y) false s' f (first_at m z) p q e = absurd (omega arith)
  spot_apart a b l k (at x) null s true (first_at m z) g p q e = absurd (omega arith)
  spot_apart a b l k (at x) null s false (first_at m z) g p q e = absurd (omega arith)
  spot_apart a b l k (at x) (at y) s s' (first_at m z) (first_at m' z') p q e = h.held.once x a b l k z (rw e z')

  pub allowed_few : W.size ≤ vars + 2
  allowed_few =
      few (vars + 2) W.size (λ a. spot (lowest a) (W.n.shared a))
      (λ a l. spot_low (lowest a) (W.n.shared a) a (firstly vars (λ x. bit x (W.mask a))))
      (λ a b l k e.
      spot_apart a b l k (lowest a) (lowest b) (W.n.shared a) (W.n.shared b)
      (firstly vars (λ x. bit x (W.mask a)))
      (firstly vars (λ x. bit x (W.mask b)))
      refl
      refl
      e)

-- "A working shape has at most 11 individuals"
pub results_edge : (vars : ℕ) → vars ≤ version_1.vars → (W : Shape) → Allowed vars W → (o : Op) → Uses vars o → All (λ r. r.1.size ≤ edge) (results o W)
results_edge vars l W h o u =
    all_weak (λ r k. let z = allowed_few vars W h in omega arith) (results_small vars W h.held o u)
