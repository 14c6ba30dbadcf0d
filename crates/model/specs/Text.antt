-- Numbers out of quoted text, so that worked data stands here as the documents print it.
use Rattle.std.specs.Prelude.{ℕ, ◌+◌, ◌*◌, ◌-◌, Bool, false, cond, ◌&&◌, ◌||◌, List, [], ◌∷◌, ◌++◌, eqb, leb}
use Prim.Native.Char.{code}
use Prim.Native.String.{String}
use Prim.Native.String as text
use Rattle.model.specs.Finite.{given}

-- 0 to 9 and a to f
abbrev decimal : ℕ → Bool
decimal c = leb 48 c && leb c 57

abbrev digit : ℕ → Bool
digit c = decimal c || (leb 97 c && leb c 102)

abbrev value : ℕ → ℕ
value c = cond (decimal c) (c - 48) (c - 87)

-- in front of the first part
abbrev push : List ℕ → List (List ℕ) → List (List ℕ)
push a [] = a ∷ []
push a (l ∷ ls) = (a ++ l) ∷ ls

-- ended by the character c, with the parts of the rest at hand: a digit ends nothing, a semicolon a part
abbrev ended_by : ℕ → List ℕ → List (List ℕ) → List (List ℕ)
ended_by c a ls = cond (digit c) ls (cond (eqb c 59) (a ∷ ls) (push a ls))

-- `begun` says that a number stands before the text, and v is its value so far
abbrev scan : ℕ → Bool → ℕ → String → List (List ℕ)
scan base begun v text.[] = given begun v ∷ []
scan base begun v (text.◌∷◌ c s) =
    ended_by (code c) (given begun v)
    (scan base (digit (code c)) (cond (digit (code c)) (base * v + value (code c)) 0) s)

-- the numbers of each part; parts are set apart by semicolons
abbrev pub parts : ℕ → String → List (List ℕ)
parts base = scan base false 0

-- "hexadecimal"
abbrev joined : List (List ℕ) → List ℕ
joined [] = []
joined (l ∷ ls) = l ++ joined ls

abbrev pub hex : String → List ℕ
hex s = joined (parts 16 s)
