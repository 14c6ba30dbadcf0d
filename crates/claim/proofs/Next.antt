-- What the loops keep, one turn further.
use Prim.Native.Nat.{ℕ, ◌+◌, ◌<◌}
use mathlib.Core.List.{List, ◌++◌}
use mathlib.Core.Path.{◌≡◌}
use native.Mathlib.Nat.{mul-suc}
use native.Mathlib.Numerals.{add-one}
use native.Mathlib.Omega.{arith}
use lib.Bits.{bit_or}
use lib.ListN.{length, set, drop}
use Rattle.model.specs.Format.{Format}
use Rattle.model.specs.File.{individual_at, held, mask, floor, key, size_at, past, start, point, point_before}
use Rattle.model.specs.Verdict.{table}
use Rattle.model.proofs.Tables.{table_none, table_store}
use Rattle.claim.proofs.Steps.{turns}

-- ---- of a record's individuals: the place, the variables held before, and the least key that the next one may have

pub place_next : (F : Format) (place i : ℕ) → individual_at F place (i + 1) ≡ individual_at F place i + F.width + 1
place_next F place i = rw (add-one i) (let z = mul-suc (F.width + 1) i in omega arith)

module _ (F : Format) (f : List ℕ) (place i : ℕ) where
  pub held_next : held F f place (i + 1) ≡ bit_or (held F f place i) (mask F f place i)
  unfolding held
  held_next = rw (add-one i)

  pub floor_next : floor F f place (i + 1) ≡ key F f place i + 1
  unfolding floor
  floor_next = rw (add-one i)

pub ruleset individuals = (turns, place_next, held_next, floor_next)

-- ---- of the records: where the next one starts, the point before it, and the table of starts

module _ (F : Format) (f : List ℕ) (i : ℕ) where
  pub start_next : start F f (i + 1) ≡ past F (start F f i) (size_at f (start F f i))
  unfolding start
  start_next = rw (add-one i)

  pub point_next : point_before F f (i + 1) ≡ point F f i
  point_next = rw (add-one i)

-- n starts and the end of the last record, in the table that was l
pub table_end : (g : ℕ → ℕ) (l : List ℕ) (k n m : ℕ) {starts : List ℕ} {end : ℕ} → starts ≡ table g k → end ≡ g k → k ≡ n → n ≡ m → n < length l → set (starts ++ drop n l) n end ≡ table g (m + 1) ++ drop (m + 1) l
table_end g l k n m p q e d h = rw (p, q, e, d) (table_store g l m (rw d at h))

pub ruleset records = (turns, start_next, point_next, table_none)
