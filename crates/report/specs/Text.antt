-- The answer in words, as it is printed.
use Rattle.std.specs.Prelude.{ℕ, zero, suc, List, [], ◌++◌, codes, decimal, ◌<◌, length, take, Option}
use Rattle.std.specs.Io.KnownBytes.{Appends}
use Rattle.model.specs.File.{points}
use Rattle.model.specs.Claim.{claim}
use Rattle.model.specs.Verdict.{Verdict, accepted, unreadable, no_entry, short_buffer, uncovered, answer_of, answer_byte}

-- what the verdict's line begins with: `accept`, or `refuse` and the number
abbrev pub heading : ℕ → List ℕ
heading zero = codes "accept "
heading (suc n) = codes "refuse " ++ decimal (suc n) ++ codes " "

-- `accept a b` for the number 0, else `refuse number a b`
abbrev pub verdict_line : ℕ → ℕ → ℕ → List ℕ
verdict_line number a b = heading number ++ decimal a ++ codes " " ++ decimal b ++ codes "\n"

-- v in decimal, after a space unless it is the first
abbrev pub piece : ℕ → ℕ → List ℕ
piece zero v = decimal v
piece (suc p) v = codes " " ++ decimal v

-- g 0, g 1 .. below n, set apart by a space
unfoldable pub spaced : (ℕ → ℕ) → ℕ → List ℕ
spaced g zero = []
spaced g (suc n) = spaced g n ++ piece n (g n)

-- the bytes of the points on a line, if the claim is accepted
abbrev pub bytes_if : Verdict → List ℕ → List ℕ
bytes_if (accepted a b) f = spaced (answer_byte (claim f)) (points f) ++ codes "\n"
bytes_if (unreadable fault place) f = []
bytes_if no_entry f = []
bytes_if (short_buffer n) f = []
bytes_if (uncovered i s) f = []

-- known bytes have grown by a front of bs, and not by all of it
pub record AppendsFront (old new : Option (List ℕ)) (bs : List ℕ) : Type 0 where
  pub many : ℕ
  pub short : many < length bs
  pub front : Appends old new (take many bs)

-- the answer on a file whose verdict is v
abbrev pub text_of : Verdict → List ℕ → List ℕ
text_of v f = verdict_line (answer_of v).number (answer_of v).a (answer_of v).b ++ bytes_if v f
