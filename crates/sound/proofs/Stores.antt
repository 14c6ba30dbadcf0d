-- Stores stay proper: no step makes a variable or a link lead to what is no cell. And going through null has no next store.
use Prim.Native.Nat.{ℕ, ◌<◌}
use mathlib.Core.Bool.{true}
use mathlib.Core.List.{List, []}
use mathlib.Core.Path.{◌≡◌, refl}
use native.Mathlib.Omega.{arith}
use lib.Dec.{eqb}
use borrow.Author.Tests.{eq-eqb, ne_eqb}
use Rattle.model.specs.Finite.{Ref, null, at, null_ref}
use Rattle.model.specs.Store.{Store, Proper, Op, stop, go, set_null, set_var, set_new, load, cut, store, is_null, is_same, through_null, change, with_var, with_link, with_new, through, at_point, next_stores}
use Rattle.model.proofs.Bools.{by, clash, top_or_below}
use Rattle.model.proofs.Search.{null_not_at}
use Rattle.model.proofs.Lists.{All, none, also, all_map}
use Rattle.model.proofs.Accepted.{Uses}

-- ---- what a change leads to

no_cell : {size : ℕ} (c : ℕ) → null ≡ at c → c < size
no_cell c e = null_not_at e

-- r leads to a cell, and so does f at y
change_low : {size : ℕ} {r : Ref} (f : ℕ → Ref) (x y : ℕ) → ((c : ℕ) → r ≡ at c → c < size) → ((c : ℕ) → f y ≡ at c → c < size) → (c : ℕ) → change x r f y ≡ at c → c < size
change_low f x y h g c e = by (eqb y x) (λ q. h c (rw q at e)) (λ q. g c (rw q at e))

module _ (vars : ℕ) (σ : Store) (ok : Proper vars σ) where
  var_proper : (x : ℕ) (r : Ref) → ((c : ℕ) → r ≡ at c → c < σ.size) → Proper vars (with_var x r σ)
  var_proper x r h = record { var = λ y c l e. change_low σ.var x y h (λ c. ok.var y c l) c e; n = ok.n }

  link_proper : (a : ℕ) (r : Ref) → ((c : ℕ) → r ≡ at c → c < σ.size) → Proper vars (with_link a r σ)
  link_proper a r h = record { var = ok.var; n = λ b c l e. change_low σ.n a b h (λ c. ok.n b c l) c e }

  new_proper : (x : ℕ) → Proper vars (with_new x σ)
  new_proper x = record {
    var = λ y c l e.
        change_low σ.var x y (λ c q. let w : σ.size ≡ c = cc in omega arith) (λ c q. let k = ok.var y c l q in omega arith) c e;
    n = λ b c l e.
        top_or_below σ.size b l
        (λ q. no_cell c (rw (eq-eqb b σ.size q) at e))
        (λ k. let z = ok.n b c k (rw (ne_eqb b σ.size (λ y. omega arith)) at e) in omega arith);
  }

  through_proper : (r : Ref) (f : ℕ → Store) → ((c : ℕ) → r ≡ at c → Proper vars (f c)) → All (Proper vars) (through r f)
  through_proper null f h = none
  through_proper (at c) f h = also (h c refl) none

  there : (s : ℕ) {l : List Store} → All (Proper vars) l → All (λ (r : ℕ × Store). Proper vars r.1) (at_point s l)
  there s t = all_map _ _ t

  pub steps_proper : (o : Op) → Uses vars o → All (λ r. Proper vars r.1) (next_stores o σ)
  steps_proper stop u = none
  steps_proper (go s) u = also ok none
  steps_proper (set_null x s) u = also (var_proper x null no_cell) none
  steps_proper (set_var x y s) u = also (var_proper x (σ.var y) (λ c. ok.var y c u.1)) none
  steps_proper (set_new x s) u = also (new_proper x) none
  steps_proper (load x y s) u =
      there s (through_proper (σ.var y) _ (λ c e. var_proper x (σ.n c) (λ d. ok.n c d (ok.var y c u.1 e))))
  steps_proper (cut x s) u = there s (through_proper (σ.var x) _ (λ c e. link_proper c null no_cell))
  steps_proper (store x y s) u =
      there s (through_proper (σ.var x) _ (λ c e. link_proper c (σ.var y) (λ d. ok.var y d u.1)))
  steps_proper (is_null x s₁ s₂) u = also ok none
  steps_proper (is_same x y s₁ s₂) u = also ok none

-- ---- "Going through null .. ends the run with no next store."

at_null : (s : ℕ) (r : Ref) (f : ℕ → Store) → null_ref r ≡ true → at_point s (through r f) ≡ []
at_null s null f e = refl
at_null s (at c) f e = clash e refl

pub null_ends : (o : Op) (σ : Store) → through_null o σ ≡ true → next_stores o σ ≡ []
null_ends stop σ e = clash e refl
null_ends (go s) σ e = clash e refl
null_ends (set_null x s) σ e = clash e refl
null_ends (set_var x y s) σ e = clash e refl
null_ends (set_new x s) σ e = clash e refl
null_ends (load x y s) σ e = at_null s (σ.var y) _ e
null_ends (cut x s) σ e = at_null s (σ.var x) _ e
null_ends (store x y s) σ e = at_null s (σ.var x) _ e
null_ends (is_null x s₁ s₂) σ e = clash e refl
null_ends (is_same x y s₁ s₂) σ e = clash e refl
