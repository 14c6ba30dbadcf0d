-- Reading and writing a shape's record are inverse to each other on what the file allows.
use Prim.Native.Nat.{ℕ, zero, suc, ◌+◌, ◌*◌, ◌/◌, ◌%◌, ◌^◌, ◌<◌, ◌≤◌}
use mathlib.Core.Bool.{Bool, true, false, cond, ◌&&◌}
use mathlib.Core.List.{List, [], ◌∷◌, ◌++◌, append_assoc, append-nil}
use mathlib.Core.Path.{◌≡◌, refl, sym, ap, ap₂, ◌∙◌, fun_ext}
use native.Mathlib.Omega.{arith}
use native.Mathlib.Nat.{mul-zero}
use native.Mathlib.Numerals.{add-one}
use lib.Dec.{eqb, ltb}
use lib.ListN.{length, get_or, take, drop, length-append, length-drop, get_or-append}
use lib.Seq.{get_or-append-add, get_or_at, get_or-take, get_or-drop, drop-cons, take-add, take_all, length-take-le, ext_get_or}
use borrow.Author.Tests.{ltb-true, lt-ltb}
use Rattle.model.specs.Truth.{Truth, 𝟘, 𝟙, ½, truth, code}
use Rattle.model.specs.Finite.{each}
use Rattle.model.specs.Shape.{Shape}
use Rattle.model.specs.Step.{edge}
use Rattle.model.specs.File.{byte, number, size_at, individuals_at, links_at, past, flags}
use Rattle.model.specs.Claim.{bytes, flags_of, record_of, shape_of}
use Rattle.model.proofs.Bools.{top_or_below, and_left, and_right, cond_cong}
use Rattle.shape.specs.Meaning.{trimmed}
use Rattle.shape.specs.Records.{sized, Readable}
use Rattle.shape.proofs.Entries.{made_eq}
use Rattle.shape.proofs.Recorded.{step_next, step_fits}
use Rattle.shape.proofs.Laying.{each_length, bytes_length, flags_are}

-- ---- what the file allows

-- a shape whose masks a record of this width holds
pub record Within (w : ℕ) (W : Shape) : Type 0 where
  pub some : 1 ≤ w
  pub narrow : w ≤ 2
  pub masks : (a : ℕ) → a < W.size → W.mask a < 256 ^ w

-- a part that is one record and nothing more, of bytes, with flags up to 3 and link values up to 2
pub record Regular (w : ℕ) (r : List ℕ) : Type 0 where
  pub readable : Readable r w
  pub exact : length r ≡ past (sized w) 0 (size_at r 0)
  pub low : (i : ℕ) → i < length r → byte r i < 256
  pub flagged : (a : ℕ) → a < size_at r 0 → flags (sized w) r (individuals_at 0) a ≤ 3
  pub linked : (a b : ℕ) → a < size_at r 0 → b < size_at r 0 → byte r (links_at (sized w) 0 (size_at r 0) + size_at r 0 * a + b) ≤ 2

-- ---- parts of one length

-- byte j of part i
each_at : (f : ℕ → List ℕ) (m : ℕ) → ((a : ℕ) → length (f a) ≡ m) → (n i j : ℕ) (t : List ℕ) → i < n → j < m → get_or (each n f ++ t) (m * i + j) 0 ≡ get_or (f i) j 0
each_at f m g zero i j t h k = absurd (omega arith)
each_at f m g (suc n) i j t h k =
    ap (λ (l : List ℕ). get_or l (m * i + j) 0) (append_assoc (each n f) (f n) t)
    ∙ top_or_below n i h
    (λ e.
    ap (λ (x : ℕ). get_or (each n f ++ (f n ++ t)) (x + j) 0) (ap (λ (x : ℕ). m * x) e ∙ sym (each_length f m g n))
    ∙ get_or-append-add (each n f) (f n ++ t) j 0
    ∙ get_or-append (f n) t 0 j (let z = g n in omega arith)
    ∙ ap (λ (x : ℕ). get_or (f x) j 0) (sym e))
    (λ l. each_at f m g n i j (f n ++ t) l k)

-- parts that are those of a list make up its front
each_read : (f : ℕ → List ℕ) (m : ℕ) (t : List ℕ) (n : ℕ) → ((a : ℕ) → a < n → f a ≡ take m (drop (m * a) t)) → each n f ≡ take (m * n) t
each_read f m t zero e = ap (λ (x : ℕ). take x t) (sym (mul-zero m))
each_read f m t (suc n) e =
    ap₂ ◌++◌ (each_read f m t n (λ a h. e a (omega arith))) (e n (omega arith))
    ∙ sym (take-add (m * n) m t)
    ∙ ap (λ (x : ℕ). take x t) (sym (step_next m n) ∙ ap (λ (x : ℕ). m * x) (add-one n))

and_cong : (b : Bool) {c d : Bool} → (b ≡ true → c ≡ d) → (b && c) ≡ (b && d)
and_cong true f = f refl
and_cong false f = refl

-- ---- single values

truth_code : (t : Truth) → truth (code t) ≡ t
truth_code 𝟘 = refl
truth_code 𝟙 = refl
truth_code ½ = refl

code_truth : (b : ℕ) → b ≤ 2 → code (truth b) ≡ b
code_truth zero h = refl
code_truth (suc zero) h = refl
code_truth (suc (suc zero)) h = refl
code_truth (suc (suc (suc b))) h = absurd (omega arith)

shared_bit : (s u : Bool) → eqb ((cond s 1 0 + 2 * cond u 1 0) % 2) 1 ≡ s
shared_bit true true = refl
shared_bit true false = refl
shared_bit false true = refl
shared_bit false false = refl

summary_bit : (s u : Bool) → eqb ((cond s 1 0 + 2 * cond u 1 0) / 2 % 2) 1 ≡ u
summary_bit true true = refl
summary_bit true false = refl
summary_bit false true = refl
summary_bit false false = refl

-- a number whose bytes stand from a place on
number_read : (w : ℕ) → 1 ≤ w → w ≤ 2 → (r : List ℕ) (x v : ℕ) → ((j : ℕ) → j < w → byte r (x + j) ≡ get_or (bytes w v) j 0) → v < 256 ^ w → number w r x ≡ v
number_read zero h k r x v f l = absurd (omega arith)
number_read (suc zero) h k r x v f l =
    ap (byte r) (let z : x ≡ x + 0 = omega arith in z) ∙ f 0 (omega arith) ∙ (let z : v % 256 ≡ v = omega arith in z)
number_read (suc (suc zero)) h k r x v f l =
    ap₂ (λ (a b : ℕ). a + 256 * b) (ap (byte r) (let z : x ≡ x + 0 = omega arith in z) ∙ f 0 (omega arith)) (f 1 (omega arith))
    ∙ (let z : v % 256 + 256 * (v / 256 % 256) ≡ v = omega arith in z)
number_read (suc (suc (suc w))) h k r x v f l = absurd (omega arith)

-- and the bytes of a number that is read
bytes_read : (w : ℕ) → 1 ≤ w → w ≤ 2 → (r : List ℕ) (x : ℕ) → ((j : ℕ) → j < w → byte r (x + j) < 256) → (j : ℕ) → j < w → get_or (bytes w (number w r x)) j 0 ≡ byte r (x + j)
bytes_read zero h k r x f j l = absurd (omega arith)
bytes_read (suc zero) h k r x f zero l =
    (let y = f 0 (omega arith) in
    let e : byte r x ≡ byte r (x + 0) = ap (byte r) (let z : x ≡ x + 0 = omega arith in z) in
    let z : byte r x % 256 ≡ byte r (x + 0) = omega arith in
    z)
bytes_read (suc zero) h k r x f (suc j) l = absurd (omega arith)
bytes_read (suc (suc zero)) h k r x f zero l =
    (let y = f 0 (omega arith) in
    let e : byte r x ≡ byte r (x + 0) = ap (byte r) (let z : x ≡ x + 0 = omega arith in z) in
    let z : (byte r x + 256 * byte r (x + 1)) % 256 ≡ byte r (x + 0) = omega arith in
    z)
bytes_read (suc (suc zero)) h k r x f (suc zero) l =
    (let y = f 0 (omega arith) in
    let v = f 1 (omega arith) in
    let e : byte r x ≡ byte r (x + 0) = ap (byte r) (let z : x ≡ x + 0 = omega arith in z) in
    let z : (byte r x + 256 * byte r (x + 1)) / 256 % 256 ≡ byte r (x + 1) = omega arith in
    z)
bytes_read (suc (suc zero)) h k r x f (suc (suc j)) l = absurd (omega arith)
bytes_read (suc (suc (suc w))) h k r x f j l = absurd (omega arith)

-- ---- what is written is read again, whatever follows it

module _ (w p : ℕ) (W : Shape) (t : List ℕ) where
  abbrev block : ℕ → List ℕ
  block a = bytes w (W.mask a) ++ (flags_of W a ∷ [])

  abbrev line : ℕ → List ℕ
  line a = each W.size (λ b. code (W.n.link a b) ∷ [])

  abbrev whole : List ℕ
  whole = record_of (sized w) p W ++ t

  block_length : (a : ℕ) → length (block a) ≡ w + 1
  block_length a =
      length-append (bytes w (W.mask a)) (flags_of W a ∷ []) ∙ ap (λ (x : ℕ). x + 1) (bytes_length w (W.mask a))

  line_length : (a : ℕ) → length (line a) ≡ W.size
  line_length a =
      each_length (λ b. code (W.n.link a b) ∷ []) 1 (λ b. refl) W.size
      ∙ (let z : 1 * W.size ≡ W.size = omega arith in z)

  after : (x : ℕ) → byte whole (2 + x) ≡ get_or (each W.size block ++ (each W.size line ++ t)) x 0
  after x =
      get_or-append-add (p ∷ W.size ∷ []) ((each W.size block ++ each W.size line) ++ t) x 0
      ∙ ap (λ (l : List ℕ). get_or l x 0) (append_assoc (each W.size block) (each W.size line) t)

  in_block : (a j : ℕ) → a < W.size → j < w + 1 → byte whole (2 + (w + 1) * a + j) ≡ get_or (block a) j 0
  in_block a j h k =
      ap (byte whole) (let z : 2 + (w + 1) * a + j ≡ 2 + ((w + 1) * a + j) = omega arith in z)
      ∙ after ((w + 1) * a + j)
      ∙ each_at block (w + 1) block_length W.size a j (each W.size line ++ t) h k

  flags_read : (a : ℕ) → a < W.size → byte whole (2 + (w + 1) * a + w) ≡ flags_of W a
  flags_read a h =
      in_block a w h (omega arith) ∙ get_or_at (bytes w (W.mask a)) (flags_of W a) [] 0 w (bytes_length w (W.mask a))

  mask_read : Within w W → (a : ℕ) → a < W.size → number w whole (2 + (w + 1) * a) ≡ W.mask a
  mask_read q a h =
      number_read w q.some q.narrow whole (2 + (w + 1) * a) (W.mask a)
      (λ j k.
      in_block a j h (omega arith)
      ∙ get_or-append (bytes w (W.mask a)) (flags_of W a ∷ []) 0 j (let z = bytes_length w (W.mask a) in omega arith))
      (q.masks a h)

  link_read : (a b : ℕ) → a < W.size → b < W.size → byte whole (2 + (w + 1) * W.size + W.size * a + b) ≡ code (W.n.link a b)
  link_read a b h k =
      ap (byte whole)
      (let z : 2 + (w + 1) * W.size + W.size * a + b ≡ 2 + ((w + 1) * W.size + (W.size * a + b)) = omega arith in z)
      ∙ after ((w + 1) * W.size + (W.size * a + b))
      ∙ ap (λ (x : ℕ). get_or (each W.size block ++ (each W.size line ++ t)) (x + (W.size * a + b)) 0)
      (sym (each_length block (w + 1) block_length W.size))
      ∙ get_or-append-add (each W.size block) (each W.size line ++ t) (W.size * a + b) 0
      ∙ each_at line W.size line_length W.size a b t h k
      ∙ ap (λ (l : List ℕ). get_or l b 0) (sym (append-nil (line a)))
      ∙ ap (λ (x : ℕ). get_or (line a ++ []) x 0) (let z : b ≡ 1 * b + 0 = omega arith in z)
      ∙ each_at (λ b. code (W.n.link a b) ∷ []) 1 (λ b. refl) W.size b 0 [] k (omega arith)

  pub read_written : Within w W → shape_of (sized w) (record_of (sized w) p W ++ t) ≡ trimmed W
  read_written q =
      made_eq refl
      (fun_ext (λ a. cond_cong refl (λ l. mask_read q a (ltb-true a W.size l)) (λ l. refl)))
      (fun_ext
      (λ a.
      and_cong (ltb a W.size)
      (λ l.
      ap (λ (x : ℕ). eqb (x / 2 % 2) 1) (flags_read a (ltb-true a W.size l))
      ∙ summary_bit (W.n.shared a) (W.summary a))))
      (fun_ext
      (λ a.
      and_cong (ltb a W.size)
      (λ l.
      ap (λ (x : ℕ). eqb (x % 2) 1) (flags_read a (ltb-true a W.size l))
      ∙ shared_bit (W.n.shared a) (W.summary a))))
      (fun_ext
      (λ a.
      fun_ext
      (λ b.
      cond_cong refl
      (λ l.
      ap truth
      (link_read a b
      (ltb-true a W.size (and_left (ltb a W.size) (ltb b W.size) l))
      (ltb-true b W.size (and_right (ltb a W.size) (ltb b W.size) l)))
      ∙ truth_code (W.n.link a b))
      (λ l. refl))))

  -- the reader takes it
  pub written_readable : Within w W → W.size ≤ edge → Readable (record_of (sized w) p W ++ t) w
  written_readable q h = record {
    some = q.some;
    narrow = q.narrow;
    size = h;
    whole =
        let x = each_length block (w + 1) block_length W.size in
        let y = each_length line W.size line_length W.size in
        let z = length-append (each W.size block) (each W.size line) in
        let v = length-append (each W.size block ++ each W.size line) t in
        omega arith;
  }

pub read_record : (w p : ℕ) (W : Shape) → Within w W → shape_of (sized w) (record_of (sized w) p W) ≡ trimmed W
read_record w p W q =
    ap (shape_of (sized w)) (sym (append-nil (record_of (sized w) p W))) ∙ read_written w p W [] q

-- ---- what is read is written again

take_one : (l : List ℕ) (j : ℕ) → j < length l → take 1 (drop j l) ≡ get_or l j 0 ∷ []
take_one l j h = ap (take 1) (drop-cons l j 0 h)

-- the record of p, k and a rest that is as long as the record says
module _ (w p k : ℕ) (rest : List ℕ) (q : Regular w (p ∷ k ∷ rest)) where
  abbrev one : List ℕ
  one = p ∷ k ∷ rest

  abbrev held : Shape
  held = shape_of (sized w) one

  rest_length : length rest ≡ (w + 1) * k + k * k
  rest_length = let z = q.exact in omega arith

  in_rest : (x : ℕ) → get_or rest x 0 ≡ byte one (2 + x)
  in_rest x = sym (get_or-append-add (p ∷ k ∷ []) rest x 0)

  flags_again : (a : ℕ) → a < k → flags_of held a ≡ byte one (2 + (w + 1) * a + w)
  flags_again a h =
      rw (lt-ltb a k h)
      (let z = q.flagged a h in
      let y = flags_are (byte one (2 + (w + 1) * a + w)) in
      sym y ∙ (let x : byte one (2 + (w + 1) * a + w) % 4 ≡ byte one (2 + (w + 1) * a + w) = omega arith in x))

  mask_again : (a : ℕ) → a < k → held.mask a ≡ number w one (2 + (w + 1) * a)
  mask_again a h = rw (lt-ltb a k h)

  link_again : (a b : ℕ) → a < k → b < k → code (held.n.link a b) ≡ byte one (2 + (w + 1) * k + k * a + b)
  link_again a b h l = rw (lt-ltb a k h, lt-ltb b k l) (code_truth _ (q.linked a b h l))

  -- byte j of individual a
  block_byte : (a j : ℕ) → a < k → j < w + 1 → get_or (block w p held [] a) j 0 ≡ byte one (2 + (w + 1) * a + j)
  block_byte a j h l =
      top_or_below w j (let z : j < suc w = omega arith in z)
      (λ e.
      ap (λ (x : ℕ). get_or (block w p held [] a) x 0) e
      ∙ get_or_at (bytes w (held.mask a)) (flags_of held a) [] 0 w (bytes_length w (held.mask a))
      ∙ flags_again a h ∙ ap (λ (x : ℕ). byte one (2 + (w + 1) * a + x)) (sym e))
      (λ m.
      get_or-append (bytes w (held.mask a)) (flags_of held a ∷ []) 0 j (let z = bytes_length w (held.mask a) in omega arith)
      ∙ ap (λ (v : ℕ). get_or (bytes w v) j 0) (mask_again a h)
      ∙ bytes_read w q.readable.some q.readable.narrow one (2 + (w + 1) * a)
      (λ i n. q.low (2 + (w + 1) * a + i) (let z = step_fits (w + 1) a k h in let y = rest_length in omega arith))
      j m)

  fits : (a : ℕ) → a < k → w + 1 ≤ length (drop ((w + 1) * a) rest)
  fits a h =
      let z = step_fits (w + 1) a k h in
      let y = rest_length in
      let x = length-drop ((w + 1) * a) rest in
      omega arith

  block_again : (a : ℕ) → a < k → block w p held [] a ≡ take (w + 1) (drop ((w + 1) * a) rest)
  block_again a h =
      ext_get_or 0 (block w p held [] a) (take (w + 1) (drop ((w + 1) * a) rest))
      (block_length w p held [] a ∙ sym (length-take-le (w + 1) (drop ((w + 1) * a) rest) (fits a h)))
      (λ j l.
      let m : j < w + 1 = (let z = block_length w p held [] a in omega arith) in
      block_byte a j h m
      ∙ ap (byte one) (let z : 2 + (w + 1) * a + j ≡ 2 + ((w + 1) * a + j) = omega arith in z)
      ∙ sym (in_rest ((w + 1) * a + j))
      ∙ sym (get_or-drop ((w + 1) * a) rest j 0)
      ∙ sym (get_or-take (w + 1) (drop ((w + 1) * a) rest) j 0 m))

  abbrev cells : List ℕ
  cells = drop ((w + 1) * k) rest

  cells_length : length cells ≡ k * k
  cells_length = let z = rest_length in let y = length-drop ((w + 1) * k) rest in omega arith

  line_again : (a : ℕ) → a < k → line w p held [] a ≡ take k (drop (k * a) cells)
  line_again a h =
      each_read (λ b. code (held.n.link a b) ∷ []) 1 (drop (k * a) cells) k
      (λ b l.
      ap (λ (x : ℕ). x ∷ [])
      (link_again a b h l
      ∙ ap (byte one) (let z : 2 + (w + 1) * k + k * a + b ≡ 2 + ((w + 1) * k + (k * a + b)) = omega arith in z)
      ∙ sym (in_rest ((w + 1) * k + (k * a + b)))
      ∙ sym (get_or-drop ((w + 1) * k) rest (k * a + b) 0)
      ∙ sym (get_or-drop (k * a) cells b 0))
      ∙ sym (take_one (drop (k * a) cells) b
      (let z = step_fits k a k h in
      let y = cells_length in
      let x = length-drop (k * a) cells in
      omega arith))
      ∙ ap (λ (x : ℕ). take 1 (drop x (drop (k * a) cells))) (let z : b ≡ 1 * b = omega arith in z))
      ∙ ap (λ (x : ℕ). take x (drop (k * a) cells)) (let z : 1 * k ≡ k = omega arith in z)

  again : record_of (sized w) p held ≡ one
  again =
      ap (λ (l : List ℕ). p ∷ k ∷ l)
      (ap₂ ◌++◌
      (each_read (block w p held []) (w + 1) rest k block_again)
      (each_read (line w p held []) k cells k line_again)
      ∙ sym (take-add ((w + 1) * k) (k * k) rest)
      ∙ take_all ((w + 1) * k + k * k) rest (let z = rest_length in omega arith))

pub write_read : (w : ℕ) (r : List ℕ) → Regular w r → record_of (sized w) (byte r 0) (shape_of (sized w) r) ≡ r
write_read w [] q = absurd (let z = q.exact in omega arith)
write_read w (p ∷ []) q = absurd (let z = q.exact in omega arith)
write_read w (p ∷ k ∷ rest) q = again w p k rest q

-- ---- a shape that is read is one that can be written

number_low : (w : ℕ) → 1 ≤ w → w ≤ 2 → (r : List ℕ) (x : ℕ) → ((j : ℕ) → j < w → byte r (x + j) < 256) → number w r x < 256 ^ w
number_low zero h k r x f = absurd (omega arith)
number_low (suc zero) h k r x f =
    let y = f 0 (omega arith) in
    let e : byte r x ≡ byte r (x + 0) = ap (byte r) (let z : x ≡ x + 0 = omega arith in z) in
    omega arith
number_low (suc (suc zero)) h k r x f =
    let y = f 0 (omega arith) in
    let v = f 1 (omega arith) in
    let e : byte r x ≡ byte r (x + 0) = ap (byte r) (let z : x ≡ x + 0 = omega arith in z) in
    omega arith
number_low (suc (suc (suc w))) h k r x f = absurd (omega arith)

pub regular_within : (w : ℕ) (r : List ℕ) → Regular w r → Within w (shape_of (sized w) r)
regular_within w r q = record {
  some = q.readable.some;
  narrow = q.readable.narrow;
  masks = λ a h.
      rw (lt-ltb a (size_at r 0) h)
      (number_low w q.readable.some q.readable.narrow r (2 + (w + 1) * a)
      (λ j l.
      q.low (2 + (w + 1) * a + j)
      (let z = step_fits (w + 1) a (size_at r 0) h in
      let y = q.exact in
      omega arith)));
}
