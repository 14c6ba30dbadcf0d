-- What the engine's values mean: arrays read as total functions that are zero beyond their edge.
use Rattle.std.specs.Prelude.{ℕ, ◌+◌, ◌*◌, ◌/◌, ◌%◌, ◌<◌, ◌≤◌, Bool, false, cond, ◌&&◌, List, [], ◌∷◌, Option, None, Some, IfSome, ◌≡◌, eqb, ltb, get_or, length}
use Rattle.model.specs.Truth.{Truth, truth, 𝟘}
use Rattle.model.specs.Finite.{Ref, null, at}
use Rattle.model.specs.Shape as M
use Rattle.model.specs.Step as S
use Rattle.model.specs.Step.{edge}
use Rattle.shape.specs.declared.Shape.{Shape}
use Rattle.shape.specs.declared.Place.{Place}
use Rattle.shape.specs.declared.Place.TheVariants.{At, Null}
use Rattle.shape.specs.declared.truth.Truth as byte
use Rattle.shape.specs.declared.opening.Opened.{Opened}

-- the value of a byte
abbrev pub truth_of : byte.Truth → Truth
truth_of v = truth v.0

-- how many link values the matrix has
abbrev pub cells : ℕ
cells = edge * edge

-- the link value from a to b; there is none beyond the edge
unfoldable pub grid : List ℕ → ℕ → ℕ → Truth
grid l a b = cond (ltb a edge && ltb b edge) (truth (get_or l (a * edge + b) 0)) 𝟘

unfoldable pub mask : List ℕ → ℕ → ℕ
mask l a = get_or l a 0

-- "flags (1 shared, 2 summary)"
unfoldable pub shared : List ℕ → ℕ → Bool
shared l a = eqb (get_or l a 0 % 2) 1

unfoldable pub summary : List ℕ → ℕ → Bool
summary l a = eqb (get_or l a 0 / 2 % 2) 1

-- a shape from its parts
abbrev pub made : ℕ → (ℕ → ℕ) → (ℕ → Bool) → (ℕ → Bool) → (ℕ → ℕ → Truth) → M.Shape
made n m s h l = record { size = n; mask = m; summary = s; n = record { shared = h; link = l } }

-- the shape that the engine's shape stands for
abbrev pub meaning : Shape → M.Shape
meaning s = made s.n (mask s.masks) (summary s.flags) (shared s.flags) (grid s.links)

-- the shape with no individuals
abbrev pub none : M.Shape
none = made 0 (λ a. 0) (λ a. false) (λ a. false) (λ a b. 𝟘)

abbrev pub ref : Place → Ref
ref (At a) = at a
ref Null = null

-- the individual of a place, or 0: that a place is below the edge is stated of this number
abbrev pub index : Place → ℕ
index (At a) = a
index Null = 0

-- ---- changes of a matrix, as functions

-- the values out of u are f
abbrev pub row : ℕ → (ℕ → Truth) → (ℕ → ℕ → Truth) → ℕ → ℕ → Truth
row u f g a b = cond (eqb a u) (f b) (g a b)

-- the values into t go through f
abbrev pub column : ℕ → (ℕ → Truth → Truth) → (ℕ → ℕ → Truth) → ℕ → ℕ → Truth
column t f g a b = cond (eqb b t) (f a (g a b)) (g a b)

-- a matrix of all its values, which says g
pub record Matrix (l : List ℕ) (g : ℕ → ℕ → Truth) : Type 0 where
  pub whole : length l ≡ cells
  pub says : grid l ≡ g

-- all the masks, which are m
pub record Masks (l : List ℕ) (m : ℕ → ℕ) : Type 0 where
  pub whole : length l ≡ edge
  pub says : mask l ≡ m

-- ---- results

-- the list of the one result, or the empty list
abbrev pub one : Option Shape → List M.Shape
one None = []
one (Some s) = meaning s ∷ []

abbrev pub opening : Option Opened → List S.Opened
opening None = []
opening (Some o) = record { shape = meaning o.shape; target = ref o.target } ∷ []

-- o is what the list l has, and stays within the edge
pub record Opens (l : List S.Opened) (o : Option Opened) : Type 0 where
  pub is : opening o ≡ l
  pub size : IfSome o (λ r. r.shape.n ≤ edge)
  pub low : IfSome o (λ r. index r.target < edge)

pub record Gives (l : List M.Shape) (o : Option Shape) : Type 0 where
  pub is : one o ≡ l
  pub size : IfSome o (λ s. s.n ≤ edge)

-- ---- what a shape says of its individuals

-- the same individuals, and nothing beyond them
abbrev pub trimmed : M.Shape → M.Shape
trimmed W =
    made W.size
    (λ a. cond (ltb a W.size) (W.mask a) 0)
    (λ a. ltb a W.size && W.summary a)
    (λ a. ltb a W.size && W.n.shared a)
    (λ a b. cond (ltb a W.size && ltb b W.size) (W.n.link a b) 𝟘)

abbrev pub trimmed_result : ℕ × M.Shape → ℕ × M.Shape
trimmed_result r = (r.0, trimmed r.1)
