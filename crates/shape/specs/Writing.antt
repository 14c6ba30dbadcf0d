-- What the writer of a record leaves in a lent buffer.
use Rattle.std.specs.Prelude.{ℕ, ◌+◌, ◌*◌, cond, List, [], ◌∷◌, ◌++◌, length, take, drop}
use Rattle.model.specs.Truth.{code}
use Rattle.model.specs.Claim.{bytes}
use Rattle.shape.specs.Meaning.{mask, shared, summary, grid}

-- the buffer with q laid over it from a place on, the rest untouched
unfoldable pub laid : List ℕ → ℕ → List ℕ → List ℕ
laid out at q = take at out ++ (q ++ drop (at + length q) out)

-- the mask and the flags of individual a
unfoldable pub individual_bytes : ℕ → List ℕ → List ℕ → ℕ → List ℕ
individual_bytes w m f a = bytes w (mask m a) ++ ((cond (shared f a) 1 0 + 2 * cond (summary f a) 1 0) ∷ [])

-- the link from a to b
unfoldable pub link_byte : List ℕ → ℕ → ℕ → List ℕ
link_byte l a b = code (grid l a b) ∷ []
