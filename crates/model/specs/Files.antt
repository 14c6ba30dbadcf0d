-- File F of document 01 with its variants, and a file for each other refusal. proofs/Worked computes them.
use Rattle.std.specs.Prelude.{ℕ, List, [], ◌∷◌, ◌++◌, length, take, set}
use Prim.Native.String.{String}
use Rattle.model.specs.Text.{hex}
use Rattle.model.specs.Verdict.{Answer, answer, answer_of, verdict, buffer_after}

pub record Case : Type 0 where
  pub file : List ℕ
  -- the answer buffer before and after
  pub before : List ℕ
  pub answer : Answer
  pub after : List ℕ

abbrev pub decided : Case → Case
decided c = record {
  file = c.file;
  before = c.before;
  answer = answer_of (verdict c.file (length c.before));
  after = buffer_after c.file c.before;
}

abbrev buffer : List ℕ
buffer = 9 ∷ 9 ∷ 9 ∷ []

-- "The program prints `accept 2 0`, then `4 4`"; the third byte of the buffer stays
abbrev accepts : List ℕ → Case
accepts f = record { file = f; before = buffer; answer = answer 0 2 0; after = 4 ∷ 4 ∷ 9 ∷ [] }

-- "A refusal prints one line, as `refuse 8 0 1`: number, a, b", and leaves the buffer unchanged
abbrev refuses : List ℕ → ℕ → ℕ → ℕ → Case
refuses f number a b = record { file = f; before = buffer; answer = answer number a b; after = buffer }

-- "File F, hexadecimal, on standard input"
abbrev pub file_F : List ℕ
file_F = hex "53 48 43 01 00 01 02 04 00 00 01 00 00 00 00 00 00 02 00 00 00 01 01 01 00 00"

-- F with its second shape at point 1 replaced: k, masks and flags are given from offset 22 on
abbrev one_shape : String → List ℕ
one_shape s = take 22 file_F ++ hex s

-- refused, with room for one byte
abbrev in_one_byte : List ℕ → Answer → Case
in_one_byte f a = record { file = f; before = 9 ∷ []; answer = a; after = 9 ∷ [] }

unfoldable pub files : List Case
files =
    accepts file_F
    -- "F without its last byte: 1 25; with one more: 1 26"
    ∷ refuses (take 25 file_F) 1 25 0
    ∷ refuses (file_F ++ (0 ∷ [])) 1 26 0
    -- "M and records cut to the first shape (21 bytes): 8 0 1"
    ∷ refuses (hex "53 48 43 01 00 01 02 04 00 00 01 00 00 00 00 00 00 01 00 00 00") 8 0 1
    -- "last byte 2: accepted; last byte 1: 8 0 1; flags 2 at 24: 6 24"
    ∷ accepts (set file_F 25 2)
    ∷ refuses (set file_F 25 1) 8 0 1
    ∷ refuses (set file_F 24 2) 6 24 0
    -- "Empty input: 1 0. V 9 in F: 4 5. N 65: 4 6."
    ∷ refuses [] 1 0 0
    ∷ refuses (set file_F 5 9) 4 5 0
    ∷ refuses (set file_F 6 65) 4 6 0
    -- the other refusals. 1, a field cut short, before 2, mark
    ∷ refuses (hex "58 59") 1 2 0
    ∷ refuses (hex "58 59 5a") 2 0 0
    -- 3, version
    ∷ refuses (set file_F 3 2) 3 3 0
    -- 4: N 0, M 513, k above V + 2
    ∷ refuses (set file_F 6 0) 4 6 0
    ∷ refuses (set (set file_F 17 1) 18 2) 4 17 0
    ∷ refuses (set file_F 22 4) 4 22 0
    -- 5: "op above 9, variable not below V, successor not below N, unused field not 0"
    ∷ refuses (set file_F 7 10) 5 7 0
    ∷ refuses (set file_F 8 1) 5 8 0
    ∷ refuses (set file_F 10 2) 5 10 0
    ∷ refuses (set file_F 9 1) 5 9 0
    -- 6: a point not below N, one less than the point before, a mask, flags, a link value
    ∷ refuses (set file_F 21 2) 6 21 0
    ∷ refuses (set (set file_F 19 1) 21 0) 6 21 0
    ∷ refuses (set file_F 23 2) 6 23 0
    ∷ refuses (set file_F 24 4) 6 24 0
    ∷ refuses (set file_F 25 3) 6 25 0
    -- 6: keys 1, 1 do not ascend; 256 after 1 does, and 0 after it does not; variable 0 is held twice
    ∷ refuses (one_shape "03 00 00 00 00 00 01") 6 26 0
    ∷ refuses (one_shape "03 01 00 00 01 00 00") 6 28 0
    ∷ refuses (one_shape "02 01 00 01 00") 6 25 0
    -- 7, "no shape at point 0", before 9, "answer buffer shorter than N", before 8
    ∷ refuses (set file_F 19 1) 7 0 0
    ∷ in_one_byte (set file_F 19 1) (answer 7 0 0)
    ∷ in_one_byte (set file_F 25 1) (answer 9 2 0)
    ∷ []
