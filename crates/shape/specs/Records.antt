-- A shape's record in the file, as the engine reads and writes it: only the width of a mask matters of a format.
use Rattle.std.specs.Prelude.{ℕ, ◌*◌, ◌/◌, ◌%◌, ◌≤◌, Bool, false, not, ◌&&◌, ◌||◌, List, eqb, length}
use Rattle.std.specs.Bool.{beq}
use Rattle.model.specs.Format.{Format}
use Rattle.model.specs.File.{size_at, past}
use Rattle.model.specs.Step.{edge}

-- a format with masks of so many bytes
abbrev pub sized : ℕ → Format
sized w = record {
  vars = 0;
  points = 0;
  shapes = 0;
  spare = 0;
  ops = λ o. false;
  width = w;
  weight = 0;
  flags = 0;
  links = λ k. k * k;
}

-- a part that holds a whole record of a shape within the edge
pub record Readable (part : List ℕ) (w : ℕ) : Type 0 where
  pub some : 1 ≤ w
  pub narrow : w ≤ 2
  pub size : size_at part 0 ≤ edge
  pub whole : past (sized w) 0 (size_at part 0) ≤ length part

-- masks m and q are one, flags f and g have one shared bit, and a summary is one in the other
abbrev pub keys_agree : ℕ → ℕ → ℕ → ℕ → Bool
keys_agree m f q g =
    eqb m q
    && ((not (eqb (f / 2 % 2) 1) || eqb (g / 2 % 2) 1) && beq (eqb (f % 2) 1) (eqb (g % 2) 1))
