-- The records of a file that isn't refused: each is written again as it was read.
use Prim.Native.Nat.{ℕ, suc, ◌+◌, ◌*◌, ◌<◌, ◌≤◌}
use mathlib.Core.List.{List}
use mathlib.Core.Path.{◌≡◌, refl}
use native.Mathlib.Omega.{arith}
use lib.ListN.{length}
use Rattle.model.specs.Step.{edge}
use Rattle.model.specs.Format.{Format, version_1}
use Rattle.model.specs.File.{fine, byte, size_at, past, shapes, start, body, reading, part}
use Rattle.model.specs.Claim.{record_of, claim_of, claim}
use Rattle.model.proofs.Records.{part_ends, part_length, part_byte}
use Rattle.model.proofs.Accepted.{part_exact, size_low, flags_few, link_value_low, vars_low, starts_inside, body_fine}
use Rattle.shape.specs.Records.{sized}
use Rattle.shape.proofs.Inverse.{Regular, write_read}

-- a format whose shapes have k times k link values and stay within the edge
pub record Squared (F : Format) : Type 0 where
  pub some : 1 ≤ F.width
  pub narrow : F.width ≤ 2
  pub flags : F.flags ≤ 3
  pub links : (k : ℕ) → F.links k ≡ k * k
  pub small : F.vars + F.spare ≤ edge

module _ (F : Format) (s : Squared F) (f : List ℕ) (e : body F f ≡ fine) (low : (i : ℕ) → i < length f → byte f i < 256) (i : ℕ) (h : i < shapes f) where
  exactly : length (part F f i) ≡ past (sized F.width) 0 (size_at (part F f i) 0)
  exactly = let z = part_exact F f e i h in let y = s.links (size_at (part F f i) 0) in omega arith

  pub part_regular : Regular F.width (part F f i)
  part_regular = record {
    readable = record {
      some = s.some;
      narrow = s.narrow;
      size = let z = size_low F f e i h in let y = vars_low F f e in let x = s.small in omega arith;
      whole = let z = exactly in omega arith;
    };
    exact = exactly;
    low = λ j l.
        let z = starts_inside F f e (suc i) h in
        let y = part_ends F f i in
        let x = part_length F f i z in
        rw (part_byte F f i j (omega arith)) (low (start F f i + j) (omega arith));
    flagged = λ a l. let z = flags_few F f e i h a l in let y = s.flags in omega arith;
    linked = λ a b l m.
        link_value_low F f e i h (size_at (part F f i) 0) a b refl (s.links (size_at (part F f i) 0)) l m;
  }

  -- writing the shape of a record gives the record
  pub part_again : record_of F (byte (part F f i) 0) ((claim_of F f).shape i) ≡ part F f i
  part_again = write_read F.width (part F f i) part_regular

pub squared_1 : Squared version_1
squared_1 = record {
  some = omega arith;
  narrow = omega arith;
  flags = omega arith;
  links = λ k. refl;
  small = omega arith;
}

pub file_again : (f : List ℕ) → reading f ≡ fine → ((i : ℕ) → i < length f → byte f i < 256) → (i : ℕ) → i < shapes f → record_of version_1 (byte (part version_1 f i) 0) ((claim f).shape i) ≡ part version_1 f i
file_again f e low i h = part_again version_1 squared_1 f (body_fine f e) low i h
