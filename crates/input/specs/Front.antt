-- What a failed read leaves.
use Rattle.std.specs.Prelude.{ℕ, ◌<◌, List, length, take, Option}
use Rattle.std.specs.Io.KnownBytes.{Consumes}

-- known bytes have lost those at the front of the buffer, fewer than it has room for, and no others
pub record ConsumesFront (old new : Option (List ℕ)) (buffer : List ℕ) : Type 0 where
  pub many : ℕ
  pub short : many < length buffer
  pub front : Consumes old new (take many buffer)
