-- `shape::Shape::empty` meets its contract.
use mathlib.Core.Path.{refl}
use Rattle.model.specs.Step.{edge}
use Rattle.shape.proofs.Entries.{grid_zeros, made_eq, mask_zeros, shared_zeros, summary_zeros}
use Rattle.shape.specs.Meaning.{cells}
use Rattle.shape.proofs.Shape.empty.Goals as goal

pub returns : goal.returns
returns c = made_eq refl (mask_zeros edge) (summary_zeros edge) (shared_zeros edge) (grid_zeros cells)
