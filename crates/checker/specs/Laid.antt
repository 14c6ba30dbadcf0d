-- What the checker's functions know of a file that was read: where its records start, and what they hold.
use Rattle.std.specs.Prelude.{ℕ, ◌≤◌, ◌<◌, Bool, ◌&&◌, List, ◌≡◌, eqb, get_or}
use Rattle.model.specs.Store.{Op}
use Rattle.model.specs.Shape as M
use Rattle.model.specs.Step.{edge}
use Rattle.model.specs.Format.{format}
use Rattle.model.specs.File as file
use Rattle.model.specs.File.{fine, reading, version, start}
use Rattle.model.specs.Claim.{Claim, op_of}
use Rattle.shape.specs.declared.Shape.{Shape}
use Rattle.shape.specs.Meaning.{meaning}
use Rattle.shape.specs.declared.stepping.Statement.{Statement}
use Rattle.shape.specs.declared.Outcome.{Outcome}

-- the file was read, it has m shapes, and the array says where each record starts and where the last one ends
pub record Laid (f starts : List ℕ) (m : ℕ) : Type 0 where
  pub read : reading f ≡ fine
  pub shapes : m ≡ file.shapes f
  pub starts_at : (i : ℕ) → i ≤ m → get_or starts i 0 ≡ start (format (version f)) f i

-- s is the shape W, as a file may have it: a step can add an individual
pub record Holds (W : M.Shape) (s : Shape) : Type 0 where
  pub is : meaning s ≡ W
  pub small : s.n < edge

-- the op that a statement is
abbrev pub stated : Statement → Op
stated s = op_of s.op s.x s.y s.s1 s.s2

-- shape i of the claim is listed where the outcome leads, and covers it
abbrev pub covers_it : Claim → Outcome → ℕ → Bool
covers_it C r i = eqb (C.point i) r.successor && M.covered (meaning r.shape) (C.shape i)
