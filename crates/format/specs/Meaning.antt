-- The format of the definitions that a format in code stands for.
use Rattle.std.specs.Prelude.{◌*◌, leb}
use Rattle.model.specs.Format as M
use Rattle.format.specs.declared.Format.{Format}

abbrev pub meaning : Format → M.Format
meaning f = record {
  vars = f.vars;
  points = f.points;
  shapes = f.shapes;
  spare = f.spare;
  ops = λ o. leb o f.ops;
  width = f.width;
  weight = f.weight;
  flags = f.flags;
  links = λ k. k * k;
}
