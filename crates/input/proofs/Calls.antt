-- One call more.
use mathlib.Core.List.{List, [], ◌∷◌, ◌++◌}
use mathlib.Core.Path.{refl, sym, subst}
use Rattle.std.specs.Prelude.{Result, Ok}
use Rattle.std.specs.List.{FoldsTo}
use Rattle.input.specs.Calls.{AllOk}

FoldsTo-more : {P A : Type 0} (R : P → A → P → Type 0) (p : P) (xs : List A) (q : P) (x : A) (r : P) → FoldsTo R p xs q → R q x r → FoldsTo R p (xs ++ (x ∷ [])) r
FoldsTo-more R p [] q x r f k = (r, subst (λ p. R p x r) (sym f) k, refl)
FoldsTo-more R p (y ∷ xs) q x r f k = (f.0, f.1, FoldsTo-more R f.0 xs q x r f.2 k)

pub one_more : {F A B E : Type 0} {step : F → A → B → Result (Unit {0}) E → F → Type 0} {f g h : F} {a : A} {b : B} → AllOk step f g → step g a b (Ok tt) h → AllOk step f h
one_more {a} {b} d k = record { calls = d.calls ++ ((a, b) ∷ []); answered = FoldsTo-more _ _ d.calls _ _ _ d.answered k }
