-- A file that was read, as the checker's functions meet it: every place that they look at is there, and holds what the
-- definitions say.
use Prim.Native.Nat.{ℕ, suc, ◌+◌, ◌*◌, ◌-◌, ◌≤◌, ◌<◌}
use mathlib.Core.Bool.{Bool, true, false}
use mathlib.Core.List.{List}
use mathlib.Core.Path.{◌≡◌, ap, ap₂, ◌∙◌}
use native.Mathlib.Numerals.{add-one}
use native.Mathlib.Omega.{arith}
use lib.ListN.{length, get_or, take, drop}
use borrow.Author.Tests.{ltb-true, eqb-true, lt-ltb}
use Rattle.std.proofs.lemmas.List.{get_or-take, get_or-drop}
use Rattle.model.specs.Step.{edge}
use Rattle.model.specs.Format.{version_1}
use Rattle.model.specs.File as file
use Rattle.model.specs.File.{fine, byte, operand_right, uses_x, uses_y, point_at, points, size_at, past, point_record, start, part}
use Rattle.model.specs.Claim.{op_at, claim}
use Rattle.model.proofs.Fields.{then_left, then_right, field_there, field_right}
use Rattle.model.proofs.Accepted.{body_fine, points_few, shapes_few, vars_low, start_up, starts_inside, part_exact, size_low, point_low, point_fine}
use Rattle.shape.specs.Records.{Readable}
use Rattle.checker.specs.Laid.{Laid}

-- a byte of a part that begins at a place
pub byte_of : (f : List ℕ) (at count k : ℕ) → k < count → get_or (take (at + count - at) (drop at f)) k 0 ≡ byte f (at + k)
byte_of f at count k h = get_or-take (at + count - at) (drop at f) k 0 (omega arith) ∙ get_or-drop at f k 0

module _ (f starts : List ℕ) (m : ℕ) (l : Laid f starts m) where
  abbrev at : ℕ → ℕ
  at i = get_or starts i 0

  pub few : m ≤ 512
  few = rw l.shapes (shapes_few version_1 f (body_fine f l.read))

  pub points_low : points f ≤ 64
  points_low = points_few version_1 f (body_fine f l.read)

  -- ---- records

  module _ (i : ℕ) (h : i < m) where
    low : i < file.shapes f
    low = rw (← l.shapes) h

    starts_here : at i ≡ start version_1 f i
    starts_here = l.starts_at i (omega arith)

    pub ends_here : at (i + 1) ≡ start version_1 f (suc i)
    ends_here = l.starts_at (i + 1) (omega arith) ∙ ap (start version_1 f) (add-one i)

    pub up : at i + 2 ≤ at (i + 1)
    up = rw (starts_here, ends_here) (start_up version_1 f i)

    pub inside : at (i + 1) ≤ length f
    inside = rw ends_here (starts_inside version_1 f (body_fine f l.read) (suc i) low)

    pub there : at i < length f
    there = let u = up in let k = inside in omega arith

    pub point_is : byte f (at i) ≡ (claim f).point i
    point_is = ap (byte f) starts_here

    pub point_few : (claim f).point i < points f
    point_few = point_low f l.read i low

    pub part_is : take (at (i + 1) - at i) (drop (at i) f) ≡ part version_1 f i
    unfolding part
    part_is = ap₂ (λ s e. take (e - s) (drop s f)) starts_here ends_here

    pub small : size_at (part version_1 f i) 0 < edge
    small =
        let b = body_fine f l.read in
        let k = size_low version_1 f b i low in
        let v = vars_low version_1 f b in
        omega arith

    pub readable : Readable (part version_1 f i) 1
    readable = record {
      some = omega arith;
      narrow = omega arith;
      size = let k = small in omega arith;
      whole = let e = part_exact version_1 f (body_fine f l.read) i low in omega arith;
    }

  -- ---- statements

  operand_low : (used : Bool) (v bound : ℕ) → bound ≤ 16 → operand_right used v bound ≡ true → v < 16
  operand_low true v bound h e = let z = ltb-true v bound e in omega arith
  operand_low false v bound h e = let z = eqb-true v 0 e in omega arith

  module _ (p : ℕ) (h : p < points f) where
    whole : point_record version_1 f (file.vars f) (points f) (point_at p) ≡ fine
    whole = point_fine version_1 f (body_fine f l.read) p h

    pub statement_there : 7 + 5 * p + 5 ≤ length f
    unfolding point_record
    statement_there =
        let z = field_there _ _ _ _ _ (then_right _ _ (then_right _ _ (then_right _ _ (then_right _ _ whole)))) in omega arith

    few_vars : file.vars f ≤ 16
    few_vars = let v = vars_low version_1 f (body_fine f l.read) in omega arith

    pub x_low : byte f (7 + 5 * p + 1) < 16
    unfolding point_record
    x_low = operand_low (uses_x (byte f (point_at p))) _ (file.vars f) few_vars (field_right _ _ _ _ _ (then_left _ _ (then_right _ _ whole)))

    pub y_low : byte f (7 + 5 * p + 2) < 16
    unfolding point_record
    y_low = operand_low (uses_y (byte f (point_at p))) _ (file.vars f) few_vars (field_right _ _ _ _ _ (then_left _ _ (then_right _ _ (then_right _ _ whole))))

    pub statement_is : op_at f (7 + 5 * p) ≡ (claim f).op p
    statement_is = rw (lt-ltb p (points f) h)
