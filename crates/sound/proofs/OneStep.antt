-- One step: from a store that fits T, every next store fits some outcome of T with the same successor. The real next store
-- is in a result of the store's exact shape, this result is in one of T's, and that one is in its fold.
use Prim.Native.Nat.{ℕ}
use mathlib.Core.Path.{◌≡◌, ◌∙◌}
use Rattle.model.specs.Finite.{Some}
use Rattle.model.specs.Store.{Store, Proper, Op, next_stores}
use Rattle.model.specs.Shape.{Shape, Fits, Allowed}
use Rattle.model.specs.Step.{outcomes}
use Rattle.model.proofs.Lists.{All, all_weak, some_map, met_some}
use Rattle.model.proofs.Accepted.{Uses}
use Rattle.sound.proofs.Embed.{embeds_trans}
use Rattle.sound.proofs.Keys.{ascend_keyed}
use Rattle.sound.proofs.Fold.{fold_embeds, fold_keyed}
use Rattle.sound.proofs.Respects.{results_met}
use Rattle.sound.proofs.ExactSteps.{exact_steps}
use Rattle.sound.proofs.Fit.{fits_embeds, embeds_fits}

pub step_fits : (vars : ℕ) (σ : Store) → Proper vars σ → (o : Op) → Uses vars o → (T : Shape) → Allowed vars T → Fits vars σ T → All (λ r. Some (λ w. (r.0 ≡ w.0) × Fits vars r.1 w.1) (outcomes o T)) (next_stores o σ)
step_fits vars σ ok o u T g f =
    all_weak
    (λ r s.
    some_map _ _
    (met_some (results_met o g.held (fits_embeds vars σ T f (ascend_keyed T g.ascend)))
    (λ R U p q. (p.0 ∙ q.0, embeds_fits vars r.1 _ (fold_keyed U.1) (embeds_trans (embeds_trans p.1.1 q.1.1) (fold_embeds U.1))))
    s))
    (exact_steps vars σ ok o u)
