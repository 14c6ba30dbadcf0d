-- What holds at each turn of the loop: all the shapes passed that are listed at the point pass the test.
use Prim.Native.Nat.{◌≤◌}
use mathlib.Core.Bool.{Bool, true, not, ◌||◌}
use mathlib.Core.Path.{◌≡◌}
use lib.Dec.{eqb}
use Rattle.std.specs.Fn.{FnReturnsAt}
use Rattle.model.specs.Finite.{every}
use Rattle.model.specs.Shape as M
use Rattle.model.specs.Claim.{claim}
use Rattle.checker.specs.Meaning.{Computes}
use Rattle.checker.proofs.records.Listed.all_listed.Given as goal

abbrev pub invariant-loop-i : goal.invariant-loop-i
invariant-loop-i g l = (l.i ≤ l.self.shapes) × ((T : M.Shape → Bool) → Computes (FnReturnsAt g.F.Fn l.test) T → every l.i (λ j. not (eqb ((claim l.self.file.now).point j) l.p) || T ((claim l.self.file.now).shape j)) ≡ true)
