-- The second call by start and length: they are those of the place, and name the part that is handed back.
use Prim.Native.Nat.{ℕ, ◌-◌}
use mathlib.Core.List.{List}
use mathlib.Core.Path.{◌≡◌, refl}
use lib.Dec.{ltb}
use lib.ListN.{take, drop}
use Rattle.std.specs.Prelude.{unwrap_or}
use Rattle.std.specs.declared.ops.Range.{Range}
use Rattle.model.specs.File.{Reading, fine, refused, reading, shapes, part, handed_back}
use Rattle.model.proofs.Bools.{by}
use Rattle.claim.specs.Reads.{place_if, place_of}
use Rattle.checker.specs.Meaning.{handed_place}
use Rattle.checker.specs.Meaning as checker

-- a place as start and length, 0 and 0 where there is none
pub as_handed : (f : List ℕ) (i : ℕ) → let p = unwrap_or (place_of f i) (record { start = 0; end = 0 }) in (p.start, p.end - p.start) ≡ handed_place f i
unfolding handed_place place_of
as_handed f i = go (reading f)
  where
    nowhere : Range ℕ
    nowhere = record { start = 0; end = 0 }

    go : (r : Reading) → ((unwrap_or (place_if r f i) nowhere).start, (unwrap_or (place_if r f i) nowhere).end - (unwrap_or (place_if r f i) nowhere).start) ≡ checker.place_if r f i
    go (refused w a) = refl
    go fine = by (ltb i (shapes f)) (λ q. rw q) (λ q. rw q)

-- so many bytes from there on are the part
pub place_part : (f : List ℕ) (i : ℕ) → take (handed_place f i).1 (drop (handed_place f i).0 f) ≡ handed_back f i
unfolding handed_place handed_back part
place_part f i = go (reading f) refl
  where
    go : (r : Reading) → reading f ≡ r → take (handed_place f i).1 (drop (handed_place f i).0 f) ≡ handed_back f i
    go (refused w a) e = rw e
    go fine e = rw e (by (ltb i (shapes f)) (λ q. rw q) (λ q. rw q))
