-- What a file that isn't refused has shown, for any format: limits, operands and successors, points that don't descend,
-- records that lie in the file, and shapes that are Allowed. The last section says it of `reading`.
use Prim.Native.Nat.{ℕ, zero, suc, ◌+◌, ◌*◌, ◌^◌, ◌≤◌, ◌<◌}
use mathlib.Core.Bool.{true}
use mathlib.Core.List.{List}
use mathlib.Core.Path.{◌≡◌, sym, ap, subst}
use native.Mathlib.Nat.{le_trans}
use native.Mathlib.Omega.{arith}
use lib.Dec.{eqb, leb, ltb, lit≤}
use lib.ListN.{length}
use lib.Pow.{pow_mono}
use borrow.Author.Tests.{leb-true, ltb-true, eqb-true}
use Rattle.model.specs.Store.{Op, stop, go, set_null, set_var, set_new, load, cut, store, is_null, is_same}
use Rattle.model.specs.Shape.{Allowed}
use Rattle.model.specs.Format.{Format, format}
use Rattle.model.specs.File.{fine, operand_right, uses_x, uses_y, uses_s1, uses_s2, byte, version, vars, points, head, preamble, point_record, point_records, point_at, shapes, shape_count, size_at, individuals_at, links_at, past, mask, flags, shape_record, start, point, point_before, shape_records, ended, body, reading, part}
use Rattle.model.specs.Claim.{op_of, op_at, claim_of, claim}
use Rattle.model.proofs.Bools.{by, same_or_not, and_left, and_right}
use Rattle.model.proofs.Fields.{never, then_left, then_right, field_there, field_right, in_turn_each}
use Rattle.model.proofs.Records.{link_low, record_point, record_size, record_individuals, record_links, record_inside, mask_below, flags_low, among, part_length, part_k, part_mask, part_flags, part_link, part_allowed}

-- ---- a point record that is right

-- the variables of an op are below v, its successors below n
abbrev pub Uses : ℕ → Op → Type 0
Uses v stop = Unit {0}
Uses v (go s) = Unit {0}
Uses v (set_null x s) = x < v
Uses v (set_var x y s) = (x < v) × (y < v)
Uses v (set_new x s) = x < v
Uses v (load x y s) = (x < v) × (y < v)
Uses v (cut x s) = x < v
Uses v (store x y s) = (x < v) × (y < v)
Uses v (is_null x s₁ s₂) = x < v
Uses v (is_same x y s₁ s₂) = (x < v) × (y < v)

abbrev pub Leads : ℕ → Op → Type 0
Leads n stop = Unit {0}
Leads n (go s) = s < n
Leads n (set_null x s) = s < n
Leads n (set_var x y s) = s < n
Leads n (set_new x s) = s < n
Leads n (load x y s) = s < n
Leads n (cut x s) = s < n
Leads n (store x y s) = s < n
Leads n (is_null x s₁ s₂) = (s₁ < n) × (s₂ < n)
Leads n (is_same x y s₁ s₂) = (s₁ < n) × (s₂ < n)

module _ (v n x y s1 s2 : ℕ) where
  record Right (o : ℕ) : Type 0 where
    x_right : operand_right (uses_x o) x v ≡ true
    y_right : operand_right (uses_y o) y v ≡ true
    s1_right : operand_right (uses_s1 o) s1 n ≡ true
    s2_right : operand_right (uses_s2 o) s2 n ≡ true

  abbrev Says : ℕ → Type 0
  Says o = Right o → Uses v (op_of o x y s1 s2) × Leads n (op_of o x y s1 s2)

  says_op : (o : ℕ) → Says o
  says_op o =
      by (eqb o 1) (is 1 (λ r. (tt, ltb-true _ _ r.s1_right))) (λ n1.
      by (eqb o 2) (is 2 (λ r. (ltb-true _ _ r.x_right, ltb-true _ _ r.s1_right))) (λ n2.
      by (eqb o 3) (is 3 (λ r. ((ltb-true _ _ r.x_right, ltb-true _ _ r.y_right), ltb-true _ _ r.s1_right))) (λ n3.
      by (eqb o 4) (is 4 (λ r. (ltb-true _ _ r.x_right, ltb-true _ _ r.s1_right))) (λ n4.
      by (eqb o 5) (is 5 (λ r. ((ltb-true _ _ r.x_right, ltb-true _ _ r.y_right), ltb-true _ _ r.s1_right))) (λ n5.
      by (eqb o 6) (is 6 (λ r. (ltb-true _ _ r.x_right, ltb-true _ _ r.s1_right))) (λ n6.
      by (eqb o 7) (is 7 (λ r. ((ltb-true _ _ r.x_right, ltb-true _ _ r.y_right), ltb-true _ _ r.s1_right))) (λ n7.
      by (eqb o 8) (is 8 (λ r. (ltb-true _ _ r.x_right, (ltb-true _ _ r.s1_right, ltb-true _ _ r.s2_right)))) (λ n8.
      by (eqb o 9) (is 9 (λ r. ((ltb-true _ _ r.x_right, ltb-true _ _ r.y_right), (ltb-true _ _ r.s1_right, ltb-true _ _ r.s2_right)))) (λ n9.
      λ r. rw (n1, n2, n3, n4, n5, n6, n7, n8, n9) (tt, tt))))))))))
    where
      is : (m : ℕ) → Says m → eqb o m ≡ true → Says o
      is m h q = subst Says (sym (eqb-true o m q)) h

pub op_right : (F : Format) (f : List ℕ) (v n place : ℕ) → point_record F f v n place ≡ fine → Uses v (op_at f place) × Leads n (op_at f place)
unfolding point_record
op_right F f v n place e =
    says_op v n _ _ _ _ (byte f place) (record {
      x_right = field_right _ _ _ _ _ (then_left _ _ (then_right _ _ e));
      y_right = field_right _ _ _ _ _ (then_left _ _ (then_right _ _ (then_right _ _ e)));
      s1_right = field_right _ _ _ _ _ (then_left _ _ (then_right _ _ (then_right _ _ (then_right _ _ e))));
      s2_right = field_right _ _ _ _ _ (then_right _ _ (then_right _ _ (then_right _ _ (then_right _ _ e))));
    })

-- ---- the first fields

module _ (F : Format) (f : List ℕ) where
  pub head_there : head F f ≡ fine → 7 ≤ length f
  unfolding head
  head_there e = field_there _ _ _ _ _ (then_right _ _ e)

  pub head_vars : head F f ≡ fine → vars f ≤ F.vars
  unfolding head
  head_vars e = leb-true _ _ (and_right (leb 0 (vars f)) _ (field_right _ _ _ _ _ (then_left _ _ e)))

  pub head_points : head F f ≡ fine → (1 ≤ points f) × (points f ≤ F.points)
  unfolding head
  head_points e =
      let z = field_right _ _ _ _ _ (then_right _ _ e) in
      (leb-true _ _ (and_left (leb 1 (points f)) _ z), leb-true _ _ (and_right (leb 1 (points f)) _ z))

  pub count_there : shape_count F f ≡ fine → start F f 0 ≤ length f
  unfolding shape_count start
  count_there e = field_there _ _ _ _ _ e

  pub count_shapes : shape_count F f ≡ fine → shapes f ≤ F.shapes
  unfolding shape_count
  count_shapes e = leb-true _ _ (and_right (leb 0 (shapes f)) _ (field_right _ _ _ _ _ e))

  -- a record has its first bytes at least
  pub start_up : (i : ℕ) → start F f i + 2 ≤ start F f (suc i)
  unfolding start
  start_up i = omega arith

-- ---- a file of the format F that isn't refused

module _ (F : Format) (f : List ℕ) (e : body F f ≡ fine) where
  head_fine : head F f ≡ fine
  unfolding body
  head_fine = then_left _ _ e

  count_fine : shape_count F f ≡ fine
  unfolding body
  count_fine = then_left _ _ (then_right _ _ (then_right _ _ e))

  pub point_fine : (p : ℕ) → p < points f → point_record F f (vars f) (points f) (point_at p) ≡ fine
  unfolding body point_records
  point_fine p h = in_turn_each _ (points f) (then_left _ _ (then_right _ _ e)) p h

  pub shape_fine : (i : ℕ) → i < shapes f → shape_record F f (vars f) (points f) (point_before F f i) (start F f i) ≡ fine
  unfolding body shape_records
  shape_fine i h = in_turn_each _ (shapes f) (then_left _ _ (then_right _ _ (then_right _ _ (then_right _ _ e)))) i h

  -- V, N and M are within their limits
  pub vars_low : vars f ≤ F.vars
  vars_low = head_vars F f head_fine

  pub points_some : 1 ≤ points f
  points_some = (head_points F f head_fine).0

  pub points_few : points f ≤ F.points
  points_few = (head_points F f head_fine).1

  pub shapes_few : shapes f ≤ F.shapes
  shapes_few = count_shapes F f count_fine

  -- operands and successors are in range
  op_fine : (p : ℕ) → Uses (vars f) ((claim_of F f).op p) × Leads (points f) ((claim_of F f).op p)
  op_fine p =
      by (ltb p (points f))
      (λ q. rw q (op_right F f (vars f) (points f) (point_at p) (point_fine p (ltb-true p (points f) q))))
      (λ q. rw q (tt, tt))

  pub ops_use : (p : ℕ) → Uses (vars f) ((claim_of F f).op p)
  ops_use p = (op_fine p).0

  pub ops_lead : (p : ℕ) → Leads (points f) ((claim_of F f).op p)
  ops_lead p = (op_fine p).1

  -- the points of the shapes are below N and don't descend
  pub point_below : (i : ℕ) → i < shapes f → point F f i < points f
  point_below i h =
      ltb-true _ _ (and_right (leb (point_before F f i) (point F f i)) _ (record_point F f _ _ _ _ (shape_fine i h)))

  pub point_next : (i : ℕ) → suc i < shapes f → point F f i ≤ point F f (suc i)
  point_next i h =
      leb-true _ _ (and_left (leb (point F f i) (point F f (suc i))) _ (record_point F f _ _ _ _ (shape_fine (suc i) h)))

  pub points_ascend : (i j : ℕ) → i ≤ j → j < shapes f → point F f i ≤ point F f j
  points_ascend i zero h l = let z = ap (point F f) (let q : i ≡ 0 = omega arith in q) in omega arith
  points_ascend i (suc j) h l =
      same_or_not i (suc j)
      (λ q. let z = ap (point F f) q in omega arith)
      (λ q. let z = point_next j l in let y = points_ascend i j (omega arith) (omega arith) in omega arith)

  -- every record lies in the file, and the last one ends it
  pub starts_inside : (i : ℕ) → i ≤ shapes f → start F f i ≤ length f
  unfolding start
  starts_inside zero h = count_there F f count_fine
  starts_inside (suc i) h = record_inside F f _ _ _ _ (shape_fine i h)

  pub starts_end : start F f (shapes f) ≡ length f
  unfolding body ended
  starts_end =
      let z = starts_inside (shapes f) (omega arith) in
      by (leb (length f) (start F f (shapes f)))
      (λ q. let y = leb-true (length f) (start F f (shapes f)) q in omega arith)
      (λ q. never (rw q at (then_right _ _ (then_right _ _ (then_right _ _ (then_right _ _ e))))))

  -- its part is what a reader of shapes takes: k, then k individuals, then the link values, and nothing more
  pub part_exact : (i : ℕ) → i < shapes f → length (part F f i) ≡ past F 0 (size_at (part F f i) 0)
  part_exact i h = rw (part_k F f i) (part_length F f i (starts_inside (suc i) h))

  pub size_low : (i : ℕ) → i < shapes f → size_at (part F f i) 0 ≤ vars f + F.spare
  size_low i h = rw (part_k F f i) (record_size F f _ _ _ _ (shape_fine i h))

  pub mask_low : (i : ℕ) → i < shapes f → (a : ℕ) → a < size_at (part F f i) 0 → mask F (part F f i) (individuals_at 0) a < 2 ^ vars f
  mask_low i h a l =
      let la = rw (part_k F f i) at l in
      rw (part_mask F f i a la) (mask_below F f _ _ _ (record_individuals F f _ _ _ _ (shape_fine i h)) a la)

  pub flags_few : (i : ℕ) → i < shapes f → (a : ℕ) → a < size_at (part F f i) 0 → flags F (part F f i) (individuals_at 0) a ≤ F.flags
  flags_few i h a l =
      let la = rw (part_k F f i) at l in
      rw (part_flags F f i a la) (flags_low F f _ _ _ (record_individuals F f _ _ _ _ (shape_fine i h)) a la)

  pub links_low : (i : ℕ) → i < shapes f → (j : ℕ) → j < F.links (size_at (part F f i) 0) → byte (part F f i) (links_at F 0 (size_at (part F f i) 0) + j) ≤ 2
  links_low i h j l =
      let lj = rw (part_k F f i) at l in
      rw (part_k F f i, part_link F f i j lj) (link_low f _ _ (record_links F f _ _ _ _ (shape_fine i h)) j lj)

  -- the link values by rows, where there are k times k
  pub link_value_low : (i : ℕ) → i < shapes f → (k a b : ℕ) → k ≡ size_at (part F f i) 0 → F.links k ≡ k * k → a < k → b < k → byte (part F f i) (links_at F 0 k + k * a + b) ≤ 2
  link_value_low i h k a b q r la lb =
      let z = links_low i h (k * a + b) (rw (← q, r) (let y = among k a k la in omega arith)) in
      rw (let y : links_at F 0 k + k * a + b ≡ links_at F 0 k + (k * a + b) = omega arith in y) (rw (← q) at z)

  pub shapes_allowed : 2 ^ F.vars ≤ F.weight → (i : ℕ) → i < shapes f → Allowed (vars f) ((claim_of F f).shape i)
  shapes_allowed w i h =
      part_allowed F f i (vars f) (le_trans (pow_mono vars_low) w) (record_individuals F f _ _ _ _ (shape_fine i h))

-- ---- a file that isn't refused

module _ (f : List ℕ) (e : reading f ≡ fine) where
  pub version_known : preamble f ≡ fine
  unfolding reading
  version_known = then_left _ _ e

  pub body_fine : body (format (version f)) f ≡ fine
  unfolding reading
  body_fine = then_right _ _ e

  pub ops_known : (p : ℕ) → Uses (vars f) ((claim f).op p)
  ops_known p = ops_use _ f body_fine p

  pub successors_low : (p : ℕ) → Leads (points f) ((claim f).op p)
  successors_low p = ops_lead _ f body_fine p

  pub point_low : (i : ℕ) → i < shapes f → (claim f).point i < points f
  point_low i h = point_below _ f body_fine i h

  pub shape_allowed : (i : ℕ) → i < shapes f → Allowed (vars f) ((claim f).shape i)
  shape_allowed i h = shapes_allowed _ f body_fine (lit≤ tt) i h
