-- What calls of a closure have come to.
use Rattle.std.specs.Prelude.{List, Result, Ok}
use Rattle.std.specs.List.{FoldsTo}

-- calls that each answered Ok, and no others, took the state f to g
pub record AllOk {F A B E : Type 0} (step : F → A → B → Result (Unit {0}) E → F → Type 0) (f g : F) : Type 0 where
  pub calls : List (A × B)
  pub answered : FoldsTo (λ p (x : A × B) q. step p x.0 x.1 (Ok tt) q) f calls g
