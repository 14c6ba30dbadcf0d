-- The verdict on a file, the paper's number, a and b for each, and the answer bytes.
use Rattle.std.specs.Prelude.{ℕ, zero, suc, ◌+◌, Bool, cond, not, ◌&&◌, ◌||◌, List, [], ◌∷◌, ◌++◌, eqb, ltb, length, drop}
use Rattle.model.specs.Finite.{Ref, null, at, null_ref, any, every, count, first}
use Rattle.model.specs.Store.{goes_through}
use Rattle.model.specs.Shape.{Shape, covered, holder}
use Rattle.model.specs.Step.{outcomes}
use Rattle.model.specs.File.{Fault, cut_short, wrong_mark, wrong_version, beyond_limit, wrong_point, wrong_shape, Reading, fine, refused, points, reading}
use Rattle.model.specs.Claim.{Claim, claim}

-- ---- the table of answers

pub data Verdict : Type 0 where
  -- 0: M, "points whose low part is 2"
  accepted : ℕ → ℕ → Verdict
  -- 1 to 6: what is wrong, and where
  unreadable : Fault → ℕ → Verdict
  -- 7 "no shape at point 0"
  no_entry : Verdict
  -- 9 "answer buffer shorter than N": N
  short_buffer : ℕ → Verdict
  -- 8 "a result not covered at the successor": "shape number", "successor"
  uncovered : ℕ → ℕ → Verdict

pub record Answer : Type 0 where
  pub number : ℕ
  pub a : ℕ
  pub b : ℕ

abbrev pub answer : ℕ → ℕ → ℕ → Answer
answer number a b = record { number = number; a = a; b = b }

-- the rows of the table
abbrev pub answer_of : Verdict → Answer
answer_of (accepted shapes open_points) = answer 0 shapes open_points
answer_of (unreadable cut_short place) = answer 1 place 0
answer_of (unreadable wrong_mark place) = answer 2 0 0
answer_of (unreadable wrong_version place) = answer 3 3 0
answer_of (unreadable beyond_limit place) = answer 4 place 0
answer_of (unreadable wrong_point place) = answer 5 place 0
answer_of (unreadable wrong_shape place) = answer 6 place 0
answer_of no_entry = answer 7 0 0
answer_of (short_buffer points) = answer 9 points 0
answer_of (uncovered shape successor) = answer 8 shape successor

-- no individual of the shape is shared
abbrev pub none_shared : Shape → Bool
none_shared T = every T.size (λ a. not (T.n.shared a))

-- b of answer 8
abbrev pub successor_of : Ref → ℕ
successor_of null = 0
successor_of (at p) = p

-- ---- "whether the claim is inductive and what follows at each point"

module _ (C : Claim) where
  -- some shape is listed at p
  unfoldable pub lists_some : ℕ → Bool
  lists_some p = any C.shapes (λ i. eqb (C.point i) p)

  -- "covered at the successor": by a shape listed there
  unfoldable pub covered_there : ℕ × Shape → Bool
  covered_there r = any C.shapes (λ i. eqb (C.point i) r.0 && covered r.1 (C.shape i))

  -- the successor of the first result that isn't
  unfoldable pub lost : List (ℕ × Shape) → Ref
  lost [] = null
  lost (r ∷ l) = cond (covered_there r) (lost l) (at r.0)

  unfoldable pub lost_from : ℕ → Ref
  lost_from i = lost (outcomes (C.op (C.point i)) (C.shape i))

  -- "The lowest shape number with an uncovered result decides 8."
  unfoldable pub lowest_lost : Ref
  lowest_lost = first C.shapes (λ i. not (null_ref (lost_from i)))

  -- ---- "the answer bytes"

  -- every listed shape at p passes the test
  unfoldable pub all_listed : ℕ → (Shape → Bool) → Bool
  all_listed p test = every C.shapes (λ i. not (eqb (C.point i) p) || test (C.shape i))

  -- "low part 0 for no dereference; 1 (excluded) if every listed shape has the dereferenced variable set; 2 (open) if
  -- some has it null"
  abbrev pub low_part : ℕ → Ref → ℕ
  low_part p null = 0
  low_part p (at x) = cond (all_listed p (λ T. not (null_ref (holder T x)))) 1 2

  -- "plus 4 (unshared) if no listed shape has a shared individual. A point with no shape has byte 3 (never reached) and
  -- nothing added."
  unfoldable pub answer_byte : ℕ → ℕ
  answer_byte p =
      cond (lists_some p) (low_part p (goes_through (C.op p)) + cond (all_listed p none_shared) 4 0) 3

  -- "points whose low part is 2"
  unfoldable pub open_points : ℕ
  open_points = count C.points (λ p. lists_some p && eqb (low_part p (goes_through (C.op p))) 2)

  -- ---- "then 7, 9, 8"

  abbrev pub inductive : Ref → Verdict
  inductive null = accepted C.shapes open_points
  inductive (at i) = uncovered i (successor_of (lost_from i))

  -- of a claim that was read, with so many bytes in the answer buffer
  unfoldable pub judged : ℕ → Verdict
  judged room =
      cond (lists_some 0) (cond (ltb room C.points) (short_buffer C.points) (inductive lowest_lost)) no_entry

-- "Order: 1 to 6 by place in the file, then 7, 9, 8."
abbrev pub judged_if : Reading → List ℕ → ℕ → Verdict
judged_if fine f room = judged (claim f) room
judged_if (refused fault place) f room = unreadable fault place

unfoldable pub verdict : List ℕ → ℕ → Verdict
verdict f room = judged_if (reading f) f room

-- ---- the answer buffer afterwards

-- g 0, g 1 .. below n
unfoldable pub table : (ℕ → ℕ) → ℕ → List ℕ
table g zero = []
table g (suc n) = table g n ++ (g n ∷ [])

-- "A refusal leaves the answer buffer unchanged. Acceptance writes its first N bytes and no others"
abbrev pub written_on : Verdict → List ℕ → List ℕ → List ℕ
written_on (accepted a b) f out = table (answer_byte (claim f)) (points f) ++ drop (points f) out
written_on (unreadable fault place) f out = out
written_on no_entry f out = out
written_on (short_buffer n) f out = out
written_on (uncovered i s) f out = out

unfoldable pub buffer_after : List ℕ → List ℕ → List ℕ
buffer_after f out = written_on (verdict f (length out)) f out
