-- The outcomes of a shape, place by place: what the search knows of those passed, and that all of them together are the
-- definition's. The engine's outcomes say nothing beyond their individuals, and covering doesn't ask there.
use Prim.Native.Nat.{ℕ, ◌+◌, ◌<◌}
use mathlib.Core.Bool.{true, false, cond, ◌&&◌}
use mathlib.Core.List.{List, [], ◌∷◌, map}
use mathlib.Core.Path.{◌≡◌, refl, sym, ap, ap₂, ◌∙◌}
use lib.Dec.{eqb}
use Rattle.model.specs.Finite.{null, at, any, each}
use Rattle.model.specs.Store.{Op}
use Rattle.model.specs.Shape.{Shape}
use Rattle.model.specs.Step.{outcomes}
use Rattle.model.specs.Claim.{Claim}
use Rattle.model.specs.Verdict.{covered_there, lost, lost_from}
use Rattle.model.proofs.Search.{any_cong, any_intro}
use Rattle.model.proofs.Verdicts.{lost_covered, lost_uncovered, each_more, each_lost}
use Rattle.std.specs.Prelude.{Option, Some}
use Rattle.shape.specs.declared.Outcome.{Outcome}
use Rattle.shape.specs.Meaning.{meaning, trimmed, trimmed_result}
use Rattle.shape.specs.Slots.{places, outcome_slot, out, Yields}
use Rattle.checker.specs.Laid.{covers_it}
use Rattle.shape.proofs.Places.{outcomes_placed}
use Rattle.shape.proofs.Trims.{covered_trimmed}

module _ (C : Claim) where
  there_trimmed : (r : ℕ × Shape) → covered_there C (trimmed_result r) ≡ covered_there C r
  unfolding covered_there
  there_trimmed r = any_cong C.shapes _ _ (λ i h. ap (λ e. eqb (C.point i) r.0 && e) (covered_trimmed r.1 (C.shape i)))

  lost_trimmed : (l : List (ℕ × Shape)) → lost C (map trimmed_result l) ≡ lost C l
  unfolding lost
  lost_trimmed [] = refl
  lost_trimmed (r ∷ l) = ap₂ (λ b e. cond b e (at r.0)) (there_trimmed r) (lost_trimmed l)

  -- ---- one shape's outcomes

  module _ (s : Op) (W : Shape) where
    abbrev pub slot : ℕ → List (ℕ × Shape)
    slot = outcome_slot s W

    pub lost_all : (i : ℕ) → C.op (C.point i) ≡ s → C.shape i ≡ W → lost C (each (places s W.size) slot) ≡ lost_from C i
    unfolding lost_from
    lost_all i p q = ap (lost C) (outcomes_placed s W) ∙ lost_trimmed (outcomes s W) ∙ ap (lost C) (ap₂ outcomes (sym p) (sym q))

    -- at place j, with nothing lost before it
    module _ (j : ℕ) (before : lost C (each j slot) ≡ null) where
      module _ (r : Option Outcome) (o : Outcome) (q : r ≡ Some o) (y : Yields (slot j) r) where
        only : slot j ≡ (o.successor, trimmed (meaning o.shape)) ∷ []
        only = sym y.is ∙ ap out q

        there : covered_there C (o.successor, trimmed (meaning o.shape)) ≡ any C.shapes (covers_it C o)
        unfolding covered_there
        there = there_trimmed (o.successor, meaning o.shape)

        pub is_covered : (k : ℕ) → k < C.shapes → covers_it C o k ≡ true → lost C (each (j + 1) slot) ≡ null
        is_covered k h e =
            each_more C slot j before (ap (lost C) only ∙ lost_covered C _ (there ∙ any_intro C.shapes (covers_it C o) k h e))

        pub is_lost : any C.shapes (covers_it C o) ≡ false → (n : ℕ) → j < n → lost C (each n slot) ≡ at o.successor
        is_lost e n h = each_lost C slot n j o.successor h before (ap (lost C) only ∙ lost_uncovered C _ (there ∙ e))
