-- Runs of a claim whose outcomes are all covered where they lead: every store reached fits a shape listed where it stands.
use Prim.Native.Nat.{ℕ}
use mathlib.Core.Path.{sym, ap, subst, ◌∙◌}
use Rattle.model.specs.Finite.{Some, ◌∈◌}
use Rattle.model.specs.Store.{Store, Proper, begins, goes_on, next_stores}
use Rattle.model.specs.Shape.{Fits}
use Rattle.model.specs.Claim.{Claim, listed}
use Rattle.model.proofs.Lists.{all_some, all_zip, some_weak}
use Rattle.sound.specs.Shown.{Sound, FitsOn}
use Rattle.sound.proofs.Stores.{steps_proper}
use Rattle.sound.proofs.Fit.{fits_covered}
use Rattle.sound.proofs.OneStep.{step_fits}

module _ (C : Claim) (s : Sound C) where
  abbrev FitsAt : ℕ → Store → Type 0
  FitsAt p σ = Some (Fits C.vars σ) (listed C p)

  -- one step stays within the listed shapes
  stays : (p s' : ℕ) (σ τ : Store) → Proper C.vars σ → FitsAt p σ → (s', τ) ∈ next_stores (C.op p) σ → FitsAt s' τ
  stays p s' σ τ ok fit next =
      all_some
      (λ T g f.
      all_some
      (λ r hit e.
      all_some
      (λ w cover q.
      subst (λ (x : ℕ). FitsAt x τ) (sym q.0 ∙ ap (λ z. z.0) e)
      (some_weak (λ U c. fits_covered C.vars τ w.1 U (subst (λ (z : ℕ × Store). Fits C.vars z.1 w.1) e q.1) c) cover))
      g.0
      hit)
      (step_fits C.vars σ ok (C.op p) (s.uses p) T g.1 f)
      next)
      (all_zip (s.covered p) (s.allowed p))
      fit

  pub runs_fit : FitsOn C
  runs_fit σ₀ ok fit p σ begins = (ok, fit)
  runs_fit σ₀ ok fit s' τ (goes_on {p = p} {σ = σ} run next) =
      let h = runs_fit σ₀ ok fit p σ run in (
        all_some (λ r v e. subst (λ (z : ℕ × Store). Proper C.vars z.1) e v) (steps_proper C.vars σ h.0 (C.op p) (s.uses p)) next,
        stays p s' σ τ h.0 h.1 next,
      )
