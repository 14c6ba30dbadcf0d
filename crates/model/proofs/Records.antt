-- What a shape record that is right has shown, for any format: it lies in the file, its keys ascend, each variable is
-- held once, and the part of the file that holds it is a shape that is Allowed.
use Prim.Native.Nat.{ℕ, zero, suc, ◌+◌, ◌*◌, ◌/◌, ◌%◌, ◌-◌, ◌^◌, ◌≤◌, ◌<◌}
use mathlib.Core.Bool.{true, false}
use mathlib.Core.List.{List}
use mathlib.Core.Logic.{inl, inr}
use mathlib.Core.Path.{◌≡◌, refl, ap, ap₂, ◌∙◌}
use native.Mathlib.Nat.{mul-suc, mul-le-mul_left, pow-succ'}
use native.Mathlib.Omega.{arith}
use lib.Bits.{bit_and}
use lib.Dec.{eqb, leb, ltb}
use lib.ListN.{length, drop, length-drop}
use lib.Seq.{get_or-take, get_or-drop, length-take-le}
use borrow.Author.Tests.{leb-true, ltb-true, ltb-false, eqb-true, lt-ltb}
use Rattle.model.specs.Finite.{bit}
use Rattle.model.specs.Shape.{Allowed, by_bit}
use Rattle.model.specs.Format.{Format}
use Rattle.model.specs.File.{fine, byte, number, size_at, individuals_at, links_at, past, individual_at, mask, flags, shared_flag, summary_flag, key, held, floor, plain, flags_right, individual, individuals, link_values, point_right, shape_record, start, part}
use Rattle.model.specs.Claim.{shape_of}
use Rattle.model.proofs.Bools.{by, top_or_below, and_left, and_right, or_cases}
use Rattle.model.proofs.Fields.{then_left, then_right, field_there, field_right, in_turn_each}
use Rattle.model.proofs.Masks.{bit_or_left, bit_or_right, apart, no_bit}

-- ---- a shape record that is right

pub links_inside : (f : List ℕ) (place n : ℕ) → place ≤ length f → link_values f place n ≡ fine → place + n ≤ length f
unfolding link_values
links_inside f place zero h e = omega arith
links_inside f place (suc n) h e =
    let z = field_there _ _ _ _ _ (in_turn_each _ (suc n) e n (omega arith)) in omega arith

pub link_low : (f : List ℕ) (place n : ℕ) → link_values f place n ≡ fine → (j : ℕ) → j < n → byte f (place + j) ≤ 2
unfolding link_values
link_low f place n e j h = leb-true _ _ (field_right _ _ _ _ _ (in_turn_each _ n e j h))

module _ (F : Format) (f : List ℕ) where
  pub individuals_inside : (bound place k : ℕ) → place ≤ length f → individuals F f bound place k ≡ fine → individual_at F place k ≤ length f
  unfolding individuals individual
  individuals_inside bound place zero h e = omega arith
  individuals_inside bound place (suc k) h e =
      let z = field_there _ _ _ _ _ (then_right _ _ (in_turn_each _ (suc k) e k (omega arith))) in
      let m = mul-suc (F.width + 1) k in
      omega arith

  module _ (v n least place : ℕ) (e : shape_record F f v n least place ≡ fine) where
    pub record_point : point_right least (byte f place) n ≡ true
    unfolding shape_record
    record_point = field_right _ _ _ _ _ (then_left _ _ e)

    pub record_size : size_at f place ≤ v + F.spare
    unfolding shape_record
    record_size =
        leb-true _ _ (and_right (leb 0 (size_at f place)) _ (field_right _ _ _ _ _ (then_left _ _ (then_right _ _ e))))

    size_there : place + 2 ≤ length f
    unfolding shape_record
    size_there = let z = field_there _ _ _ _ _ (then_left _ _ (then_right _ _ e)) in omega arith

    pub record_individuals : individuals F f (2 ^ v) (individuals_at place) (size_at f place) ≡ fine
    unfolding shape_record
    record_individuals = then_left _ _ (then_right _ _ (then_right _ _ e))

    pub record_links : link_values f (links_at F place (size_at f place)) (F.links (size_at f place)) ≡ fine
    unfolding shape_record
    record_links = then_right _ _ (then_right _ _ (then_right _ _ e))

    pub record_inside : past F place (size_at f place) ≤ length f
    record_inside =
        links_inside f _ _ (individuals_inside (2 ^ v) (individuals_at place) (size_at f place) size_there record_individuals)
        record_links

-- ---- keys and masks as numbers

-- with masks below the weight, the order of the numbers is the order by bit and mask
key_order : (weight d e m n : ℕ) → d < 2 → e < 2 → m < weight → n < weight → weight * d + m < weight * e + n → by_bit (eqb d 1) (eqb e 1) (ltb m n) ≡ true
key_order w zero zero m n p q h k l = lt-ltb m n (omega arith)
key_order w zero (suc zero) m n p q h k l = refl
key_order w (suc zero) zero m n p q h k l = absurd (omega arith)
key_order w (suc zero) (suc zero) m n p q h k l = lt-ltb m n (omega arith)
key_order w (suc (suc d)) zero m n p q h k l = absurd (omega arith)
key_order w (suc (suc d)) (suc zero) m n p q h k l = absurd (omega arith)
key_order w zero (suc (suc e)) m n p q h k l = absurd (omega arith)
key_order w (suc zero) (suc (suc e)) m n p q h k l = absurd (omega arith)
key_order w (suc (suc d)) (suc (suc e)) m n p q h k l = absurd (omega arith)

-- the bits of a number below 2 to the v
pub bit_below : (x v m : ℕ) → m < 2 ^ v → bit x m ≡ true → x < v
bit_below x zero m h e = no_bit x (rw (let z : m ≡ 0 = omega arith in z) at e)
bit_below zero (suc v) m h e = omega arith
bit_below (suc x) (suc v) m h e =
    let p = pow-succ' 2 v in let z = bit_below x v (m / 2) (omega arith) e in omega arith

-- ---- the individuals of a record that is right

module _ (F : Format) (f : List ℕ) (bound place k : ℕ) (e : individuals F f bound place k ≡ fine) where
  each_fine : (i : ℕ) → i < k → individual F f bound place i ≡ fine
  unfolding individuals
  each_fine i h = in_turn_each _ k e i h

  pub mask_below : (i : ℕ) → i < k → mask F f place i < bound
  unfolding individual
  mask_below i h =
      ltb-true _ _ (and_left (ltb (mask F f place i) bound) _ (field_right _ _ _ _ _ (then_left _ _ (each_fine i h))))

  disjoint : (i : ℕ) → i < k → bit_and (mask F f place i) (held F f place i) ≡ 0
  unfolding individual
  disjoint i h =
      eqb-true _ 0 (and_right (ltb (mask F f place i) bound) _ (field_right _ _ _ _ _ (then_left _ _ (each_fine i h))))

  flagged : (i : ℕ) → i < k → flags_right F f place i ≡ true
  unfolding individual
  flagged i h = field_right _ _ _ _ _ (then_right _ _ (each_fine i h))

  pub flags_low : (i : ℕ) → i < k → flags F f place i ≤ F.flags
  flags_low i h = leb-true _ _ (and_left (leb (flags F f place i) F.flags) _ (flagged i h))

  -- "as a summary with a variable", "when the key doesn't ascend"
  no_summary : (i : ℕ) → i < k → plain (mask F f place i) (flags F f place i) ≡ true
  no_summary i h =
      and_left (plain (mask F f place i) (flags F f place i)) (leb (floor F f place i) (key F f place i))
      (and_right (leb (flags F f place i) F.flags) _ (flagged i h))

  above : (i : ℕ) → i < k → floor F f place i ≤ key F f place i
  above i h =
      leb-true _ _
      (and_right (plain (mask F f place i) (flags F f place i)) (leb (floor F f place i) (key F f place i))
      (and_right (leb (flags F f place i) F.flags) _ (flagged i h)))

  pub keys_ascend : (i j : ℕ) → i < j → j < k → key F f place i < key F f place j
  unfolding floor
  keys_ascend i zero h l = absurd (omega arith)
  keys_ascend i (suc j) h l =
      let z = above (suc j) l in
      top_or_below j i h
      (λ q. let w = ap (key F f place) q in omega arith)
      (λ q. let y = keys_ascend i j q (omega arith) in omega arith)

  -- a variable that was held stays held, so that no later mask may have it
  kept : (x i j : ℕ) → i < j → bit x (mask F f place i) ≡ true → bit x (held F f place j) ≡ true
  unfolding held
  kept x i zero h b = absurd (omega arith)
  kept x i (suc j) h b =
      top_or_below j i h
      (λ q. bit_or_right x (held F f place j) (mask F f place j) (rw q at b))
      (λ q. bit_or_left x (held F f place j) (mask F f place j) (kept x i j q b))

  pub held_once : (x i j : ℕ) → i < k → j < k → bit x (mask F f place i) ≡ true → bit x (mask F f place j) ≡ true → i ≡ j
  held_once x i j h l b c =
      by (ltb i j)
      (λ p. apart x _ _ (disjoint j l) c (kept x i j (ltb-true i j p) b))
      (λ p.
      by (ltb j i)
      (λ o. apart x _ _ (disjoint i h) b (kept x j i (ltb-true j i o) c))
      (λ o. let a = ltb-false i j p in let d = ltb-false j i o in omega arith))

  pub held_plain : (x i : ℕ) → i < k → bit x (mask F f place i) ≡ true → summary_flag (flags F f place i) ≡ false
  held_plain x i h b =
      elim (or_cases (eqb (mask F f place i) 0) (eqb (flags F f place i / 2 % 2) 0) (no_summary i h)) [
        | inl q ↦ no_bit x (rw (eqb-true (mask F f place i) 0 q) at b)
        | inr q ↦ ap (λ (z : ℕ). eqb z 1) (eqb-true (flags F f place i / 2 % 2) 0 q)
      ]

  pub key_ascends : bound ≤ F.weight → (i j : ℕ) → i < j → j < k → by_bit (shared_flag (flags F f place i)) (shared_flag (flags F f place j)) (ltb (mask F f place i) (mask F f place j)) ≡ true
  key_ascends b i j h l =
      key_order F.weight (flags F f place i % 2) (flags F f place j % 2) _ _ (omega arith) (omega arith)
      (let z = mask_below i (omega arith) in omega arith)
      (let z = mask_below j l in omega arith)
      (keys_ascend i j h l)

-- ---- the part of the file that holds a record

-- one of k things of a size each lies wholly among them
pub among : (size a k : ℕ) → a < k → size * a + size ≤ size * k
among size a k h = rw (← mul-suc size a) (mul-le-mul_left size h)

module _ (F : Format) (f : List ℕ) (i : ℕ) where
  -- where record i starts, its k, and how long it is
  abbrev from : ℕ
  from = start F f i

  abbrev size : ℕ
  size = size_at f (start F f i)

  abbrev part_size : ℕ
  part_size = past F 0 size

  pub part_ends : start F f (suc i) ≡ from + part_size
  unfolding start
  part_ends = omega arith

  pub part_length : start F f (suc i) ≤ length f → length (part F f i) ≡ part_size
  unfolding part
  part_length h =
      let z = part_ends in
      length-take-le (start F f (suc i) - from) (drop from f) (rw (length-drop from f) (omega arith)) ∙ omega arith

  pub part_byte : (j : ℕ) → j < part_size → byte (part F f i) j ≡ byte f (from + j)
  unfolding part
  part_byte j h =
      let z = part_ends in
      get_or-take (start F f (suc i) - from) (drop from f) j 0 (omega arith) ∙ get_or-drop from f j 0

  part_number : (w j : ℕ) → j + w ≤ part_size → number w (part F f i) j ≡ number w f (from + j)
  part_number zero j h = refl
  part_number (suc zero) j h = part_byte j (omega arith)
  part_number (suc (suc w)) j h =
      ap₂ (λ x y. x + 256 * y) (part_byte j (omega arith))
      (part_number (suc w) (j + 1) (omega arith) ∙ ap (number (suc w) f) (let z : from + (j + 1) ≡ from + j + 1 = omega arith in z))

  -- the bytes of an individual and of a link value are among them
  in_part : (a : ℕ) → a < size → individual_at F (individuals_at 0) a + F.width < part_size
  in_part a h = let z = among (F.width + 1) a size h in omega arith

  pub part_k : size_at (part F f i) 0 ≡ size
  part_k = part_byte 1 (omega arith)

  pub part_mask : (a : ℕ) → a < size → mask F (part F f i) (individuals_at 0) a ≡ mask F f (individuals_at from) a
  part_mask a h =
      part_number F.width (individual_at F (individuals_at 0) a) (let z = in_part a h in omega arith)
      ∙ ap (number F.width f) (moved a)
    where
      moved : (a : ℕ) → from + individual_at F (individuals_at 0) a ≡ individual_at F (individuals_at from) a
      moved a = omega arith

  pub part_flags : (a : ℕ) → a < size → flags F (part F f i) (individuals_at 0) a ≡ flags F f (individuals_at from) a
  part_flags a h =
      part_byte (individual_at F (individuals_at 0) a + F.width) (in_part a h) ∙ ap (byte f) moved
    where
      moved : from + (individual_at F (individuals_at 0) a + F.width) ≡ individual_at F (individuals_at from) a + F.width
      moved = omega arith

  pub part_link : (j : ℕ) → j < F.links size → byte (part F f i) (links_at F 0 size + j) ≡ byte f (links_at F from size + j)
  part_link j h =
      part_byte (links_at F 0 size + j) (omega arith) ∙ ap (byte f) (let z : from + (links_at F 0 size + j) ≡ links_at F from size + j = omega arith in z)

  -- the shape that the part holds
  mask_is : (a : ℕ) → a < size → (shape_of F (part F f i)).mask a ≡ mask F f (individuals_at from) a
  mask_is a h = rw (part_k, lt-ltb a size h) (part_mask a h)

  shared_is : (a : ℕ) → a < size → (shape_of F (part F f i)).n.shared a ≡ shared_flag (flags F f (individuals_at from) a)
  shared_is a h = rw (part_k, lt-ltb a size h, ← part_flags a h)

  summary_is : (a : ℕ) → a < size → (shape_of F (part F f i)).summary a ≡ summary_flag (flags F f (individuals_at from) a)
  summary_is a h = rw (part_k, lt-ltb a size h, ← part_flags a h)

  pub part_allowed : (v : ℕ) → 2 ^ v ≤ F.weight → individuals F f (2 ^ v) (individuals_at from) size ≡ fine → Allowed v (shape_of F (part F f i))
  part_allowed v b e = record {
    ascend = λ a b' h l.
        let hb = rw part_k at l in
        let ha : a < size = omega arith in
        rw (shared_is a ha, shared_is b' hb, mask_is a ha, mask_is b' hb)
        (key_ascends F f (2 ^ v) (individuals_at from) size e b a b' h hb);
    held = record {
      once = λ x a b' h l p q.
          let ha = rw part_k at h in
          let hb = rw part_k at l in
          held_once F f (2 ^ v) (individuals_at from) size e x a b' ha hb (rw (mask_is a ha) at p) (rw (mask_is b' hb) at q);
      plain = λ x a h p.
          let ha = rw part_k at h in
          summary_is a ha ∙ held_plain F f (2 ^ v) (individuals_at from) size e x a ha (rw (mask_is a ha) at p);
      known = λ x a h p.
          let ha = rw part_k at h in
          bit_below x v (mask F f (individuals_at from) a) (mask_below F f (2 ^ v) (individuals_at from) size e a ha) (rw (mask_is a ha) at p);
    };
  }
