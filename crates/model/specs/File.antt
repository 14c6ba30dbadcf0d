-- "The claim file": its fields in their order, where each stands, and when one is refused.
use Rattle.std.specs.Prelude.{ℕ, zero, suc, ◌+◌, ◌*◌, ◌-◌, ◌/◌, ◌%◌, ◌^◌, Bool, cond, ◌&&◌, ◌||◌, List, [], eqb, ltb, leb, length, get_or, take, drop}
use Rattle.std.specs.Int.Bits.{bit_and, bit_or}
use Rattle.model.specs.Format.{Format, known, format}

-- ---- "The file is read a field at a time"

-- what can be wrong with a file: the rows 1 to 6 of the table of answers
pub data Fault : Type 0 where
  cut_short wrong_mark wrong_version beyond_limit wrong_point wrong_shape : Fault

-- what reading comes to: all is right, or a fault at a place decides
pub data Reading : Type 0 where
  fine : Reading
  refused : Fault → ℕ → Reading

infixr 20 ◌then◌
-- "Order: 1 to 6 by place in the file": what is wrong first decides
unfoldable pub ◌then◌ : Reading → Reading → Reading
◌then◌ fine r = r
◌then◌ (refused fault place) r = refused fault place

-- the fields of 0, then those of 1 .. below n
unfoldable pub in_turn : ℕ → (ℕ → Reading) → Reading
in_turn zero g = fine
in_turn (suc n) g = in_turn n g then g n

-- "A field that isn't wholly there is refused with 1 [at the input's length]; one that is there and wrong, at its first byte."
unfoldable pub field : List ℕ → ℕ → ℕ → Fault → Bool → Reading
field f place width fault right =
    cond (leb (place + width) (length f)) (cond right fine (refused fault place)) (refused cut_short (length f))

-- ---- numbers in the file

abbrev pub byte : List ℕ → ℕ → ℕ
byte f place = get_or f place 0

-- "16 bits, low byte first"
abbrev pub word : List ℕ → ℕ → ℕ
word f place = byte f place + 256 * byte f (place + 1)

-- a number of so many bytes, low byte first
abbrev pub number : ℕ → List ℕ → ℕ → ℕ
number zero f place = 0
number (suc zero) f place = byte f place
number (suc (suc w)) f place = byte f place + 256 * number (suc w) f (place + 1)

abbrev pub within : ℕ → ℕ → ℕ → Bool
within low v high = leb low v && leb v high

-- ---- "Mark SHC; version, 16 bits, low byte first"

unfoldable pub marked : List ℕ → Bool
marked f = eqb (byte f 0) 83 && (eqb (byte f 1) 72 && eqb (byte f 2) 67)

abbrev pub version : List ℕ → ℕ
version f = word f 3

unfoldable pub preamble : List ℕ → Reading
preamble f = field f 0 3 wrong_mark (marked f) then field f 3 2 wrong_version (known (version f))

-- ---- "V (0 to 8); N points (1 to 64)"

abbrev pub vars : List ℕ → ℕ
vars f = byte f 5

abbrev pub points : List ℕ → ℕ
points f = byte f 6

unfoldable pub head : Format → List ℕ → Reading
head F f =
    field f 5 1 beyond_limit (within 0 (vars f) F.vars)
    then field f 6 1 beyond_limit (within 1 (points f) F.points)

-- ---- "N records of op, x, y, s1, s2, one byte each, unused fields 0"

abbrev pub uses_x : ℕ → Bool
uses_x o = leb 2 o

abbrev pub uses_y : ℕ → Bool
uses_y o = eqb o 3 || (eqb o 5 || (eqb o 7 || eqb o 9))

abbrev pub uses_s1 : ℕ → Bool
uses_s1 o = leb 1 o

abbrev pub uses_s2 : ℕ → Bool
uses_s2 o = leb 8 o

-- "variable not below V, successor not below N, unused field not 0"
abbrev pub operand_right : Bool → ℕ → ℕ → Bool
operand_right used v bound = cond used (ltb v bound) (eqb v 0)

unfoldable pub point_record : Format → List ℕ → ℕ → ℕ → ℕ → Reading
point_record F f v n place =
    field f place 1 wrong_point (F.ops (byte f place))
    then field f (place + 1) 1 wrong_point (operand_right (uses_x (byte f place)) (byte f (place + 1)) v)
    then field f (place + 2) 1 wrong_point (operand_right (uses_y (byte f place)) (byte f (place + 2)) v)
    then field f (place + 3) 1 wrong_point (operand_right (uses_s1 (byte f place)) (byte f (place + 3)) n)
    then field f (place + 4) 1 wrong_point (operand_right (uses_s2 (byte f place)) (byte f (place + 4)) n)

-- where the record of point p starts
abbrev pub point_at : ℕ → ℕ
point_at p = 7 + 5 * p

unfoldable pub point_records : Format → List ℕ → Reading
point_records F f = in_turn (points f) (λ p. point_record F f (vars f) (points f) (point_at p))

-- ---- "M, 16 bits, low byte first (0 to 512)"

abbrev pub count_at : List ℕ → ℕ
count_at f = point_at (points f)

abbrev pub shapes : List ℕ → ℕ
shapes f = word f (count_at f)

unfoldable pub shape_count : Format → List ℕ → Reading
shape_count F f = field f (count_at f) 2 beyond_limit (within 0 (shapes f) F.shapes)

-- ---- "M shape records: point; k (0 to V + 2); k times mask and flags; k times k link values, row by row"

-- of the record that starts at a place: k, where its individuals and its link values stand, and where it ends
abbrev pub size_at : List ℕ → ℕ → ℕ
size_at f place = byte f (place + 1)

abbrev pub individuals_at : ℕ → ℕ
individuals_at place = place + 2

abbrev pub links_at : Format → ℕ → ℕ → ℕ
links_at F place k = individuals_at place + (F.width + 1) * k

abbrev pub past : Format → ℕ → ℕ → ℕ
past F place k = links_at F place k + F.links k

-- of the individuals that stand at a place: where number i stands, its mask, its flags and its key
abbrev pub individual_at : Format → ℕ → ℕ → ℕ
individual_at F place i = place + (F.width + 1) * i

abbrev pub mask : Format → List ℕ → ℕ → ℕ → ℕ
mask F f place i = number F.width f (individual_at F place i)

abbrev pub flags : Format → List ℕ → ℕ → ℕ → ℕ
flags F f place i = byte f (individual_at F place i + F.width)

-- "flags (1 shared, 2 summary)"
abbrev pub shared_flag : ℕ → Bool
shared_flag flags = eqb (flags % 2) 1

abbrev pub summary_flag : ℕ → Bool
summary_flag flags = eqb (flags / 2 % 2) 1

-- "256 times its shared bit plus its variable mask"
abbrev pub key : Format → List ℕ → ℕ → ℕ → ℕ
key F f place i = F.weight * (flags F f place i % 2) + mask F f place i

-- "already held in this shape": the variables of those before i
unfoldable pub held : Format → List ℕ → ℕ → ℕ → ℕ
held F f place zero = 0
held F f place (suc i) = bit_or (held F f place i) (mask F f place i)

-- "keys ascend strictly": the least key that i may have
unfoldable pub floor : Format → List ℕ → ℕ → ℕ → ℕ
floor F f place zero = 0
floor F f place (suc i) = key F f place i + 1

-- "A mask is wrong if it has a bit at or above V [bound is 2 to the V] or one already held in this shape."
abbrev pub mask_right : Format → List ℕ → ℕ → ℕ → ℕ → Bool
mask_right F f bound place i = ltb (mask F f place i) bound && eqb (bit_and (mask F f place i) (held F f place i)) 0

-- "Flags are wrong above 3, as a summary with a variable, or when the key doesn't ascend."
abbrev pub plain : ℕ → ℕ → Bool
plain mask flags = eqb mask 0 || eqb (flags / 2 % 2) 0

abbrev pub flags_right : Format → List ℕ → ℕ → ℕ → Bool
flags_right F f place i =
    leb (flags F f place i) F.flags
    && (plain (mask F f place i) (flags F f place i) && leb (floor F f place i) (key F f place i))

unfoldable pub individual : Format → List ℕ → ℕ → ℕ → ℕ → Reading
individual F f bound place i =
    field f (individual_at F place i) F.width wrong_shape (mask_right F f bound place i)
    then field f (individual_at F place i + F.width) 1 wrong_shape (flags_right F f place i)

unfoldable pub individuals : Format → List ℕ → ℕ → ℕ → ℕ → Reading
individuals F f bound place k = in_turn k (individual F f bound place)

-- "a link value is wrong above 2"
unfoldable pub link_values : List ℕ → ℕ → ℕ → Reading
link_values f place n = in_turn n (λ j. field f (place + j) 1 wrong_shape (leb (byte f (place + j)) 2))

-- "A shape's point is wrong if it isn't below N or is less than the point before [least]"
abbrev pub point_right : ℕ → ℕ → ℕ → Bool
point_right least point n = leb least point && ltb point n

unfoldable pub shape_record : Format → List ℕ → ℕ → ℕ → ℕ → ℕ → Reading
shape_record F f v n least place =
    field f place 1 wrong_shape (point_right least (byte f place) n)
    then field f (place + 1) 1 beyond_limit (within 0 (size_at f place) (v + F.spare))
    then individuals F f (2 ^ v) (individuals_at place) (size_at f place)
    then link_values f (links_at F place (size_at f place)) (F.links (size_at f place))

-- where record i starts; it ends where the next one starts, or would
unfoldable pub start : Format → List ℕ → ℕ → ℕ
start F f zero = count_at f + 2
start F f (suc i) = past F (start F f i) (size_at f (start F f i))

-- the point of record i, and the point before: "Points don't descend from record to record"
abbrev pub point : Format → List ℕ → ℕ → ℕ
point F f i = byte f (start F f i)

abbrev pub point_before : Format → List ℕ → ℕ → ℕ
point_before F f zero = 0
point_before F f (suc i) = point F f i

unfoldable pub shape_records : Format → List ℕ → Reading
shape_records F f =
    in_turn (shapes f) (λ i. shape_record F f (vars f) (points f) (point_before F f i) (start F f i))

-- ---- "Nothing follows."

-- "bytes left over": at the first extra byte
unfoldable pub ended : Format → List ℕ → Reading
ended F f = cond (leb (length f) (start F f (shapes f))) fine (refused cut_short (start F f (shapes f)))

unfoldable pub body : Format → List ℕ → Reading
body F f = head F f then point_records F f then shape_count F f then shape_records F f then ended F f

unfoldable pub reading : List ℕ → Reading
reading f = preamble f then body (format (version f)) f

-- ---- "A second call"

-- "the part of the file that holds this record"
unfoldable pub part : Format → List ℕ → ℕ → List ℕ
part F f i = take (start F f (suc i) - start F f i) (drop (start F f i) f)

-- "an empty part if the file is refused by 1 to 6 or the number isn't below M"
abbrev pub part_if : Reading → List ℕ → ℕ → List ℕ
part_if fine f i = cond (ltb i (shapes f)) (part (format (version f)) f i) []
part_if (refused fault place) f i = []

unfoldable pub handed_back : List ℕ → ℕ → List ℕ
handed_back f i = part_if (reading f) f i
