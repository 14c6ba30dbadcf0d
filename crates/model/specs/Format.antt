-- A version of the claim file: its limits and widths. Everything about files is stated over such a format.
use Rattle.std.specs.Prelude.{ℕ, ◌*◌, Bool, eqb, leb}

pub record Format : Type 0 where
  -- V is at most this; N is from 1 to this; M is at most this
  pub vars : ℕ
  pub points : ℕ
  pub shapes : ℕ
  -- k is at most V and this
  pub spare : ℕ
  -- the ops that there are
  pub ops : ℕ → Bool
  -- the bytes of a mask
  pub width : ℕ
  -- the weight of the shared bit in a key
  pub weight : ℕ
  -- flags are at most this
  pub flags : ℕ
  -- how many link values k individuals have
  pub links : ℕ → ℕ

-- "version, 16 bits, low byte first, 1; V (0 to 8); N points (1 to 64); .. M, .. (0 to 512); .. k (0 to V + 2)";
-- "op above 9", "256 times its shared bit", "Flags are wrong above 3", "k times k link values"
abbrev pub version_1 : Format
version_1 = record {
  vars = 8;
  points = 64;
  shapes = 512;
  spare = 2;
  ops = λ o. leb o 9;
  width = 1;
  weight = 256;
  flags = 3;
  links = λ k. k * k;
}

-- the versions that there are, and the format of each
abbrev pub known : ℕ → Bool
known version = eqb version 1

abbrev pub format : ℕ → Format
format version = version_1
