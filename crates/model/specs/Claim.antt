-- What a claim file says: a small pointer program and the shapes claimed at its points.
use Rattle.std.specs.Prelude.{ℕ, zero, suc, ◌+◌, ◌*◌, ◌/◌, ◌%◌, cond, ◌&&◌, List, [], ◌∷◌, ◌++◌, eqb, ltb}
use Rattle.model.specs.Truth.{𝟘, truth, code}
use Rattle.model.specs.Finite.{given, each}
use Rattle.model.specs.Store.{Op, stop, go, set_null, set_var, set_new, load, cut, store, is_null, is_same}
use Rattle.model.specs.Shape.{Shape}
use Rattle.model.specs.Format.{Format, format}
use Rattle.model.specs.File as file
use Rattle.model.specs.File.{byte, version, point_at, size_at, individuals_at, links_at, mask, flags, shared_flag, summary_flag, part}

-- "Shapes are numbered from 0 in file order."
pub record Claim : Type 0 where
  -- V, N, M
  pub vars : ℕ
  pub points : ℕ
  pub shapes : ℕ
  -- what stands at a point
  pub op : ℕ → Op
  -- the shape of a number, and the point that lists it
  pub point : ℕ → ℕ
  pub shape : ℕ → Shape

-- the shapes listed at a point
abbrev pub listed : Claim → ℕ → List Shape
listed C p = each C.shapes (λ i. given (eqb (C.point i) p) (C.shape i))

-- ---- a point record

abbrev pub op_of : ℕ → ℕ → ℕ → ℕ → ℕ → Op
op_of o x y s1 s2 =
    cond (eqb o 1) (go s1)
    (cond (eqb o 2) (set_null x s1)
    (cond (eqb o 3) (set_var x y s1)
    (cond (eqb o 4) (set_new x s1)
    (cond (eqb o 5) (load x y s1)
    (cond (eqb o 6) (cut x s1)
    (cond (eqb o 7) (store x y s1)
    (cond (eqb o 8) (is_null x s1 s2) (cond (eqb o 9) (is_same x y s1 s2) stop))))))))

abbrev pub op_at : List ℕ → ℕ → Op
op_at f place =
    op_of (byte f place) (byte f (place + 1)) (byte f (place + 2)) (byte f (place + 3)) (byte f (place + 4))

-- ---- a shape record

-- the shape that a record holds; beyond its individuals all is 0
abbrev pub shape_of : Format → List ℕ → Shape
shape_of F r = record {
  size = size_at r 0;
  mask = λ a. cond (ltb a (size_at r 0)) (mask F r (individuals_at 0) a) 0;
  summary = λ a. ltb a (size_at r 0) && summary_flag (flags F r (individuals_at 0) a);
  n = record {
    shared = λ a. ltb a (size_at r 0) && shared_flag (flags F r (individuals_at 0) a);
    -- "row by row, a row being the links from one individual"
    link = λ a b.
        cond (ltb a (size_at r 0) && ltb b (size_at r 0))
        (truth (byte r (links_at F 0 (size_at r 0) + size_at r 0 * a + b)))
        𝟘;
  };
}

-- and the record that says this shape at this point
abbrev pub bytes : ℕ → ℕ → List ℕ
bytes zero v = []
bytes (suc w) v = v % 256 ∷ bytes w (v / 256)

abbrev pub flags_of : Shape → ℕ → ℕ
flags_of W a = cond (W.n.shared a) 1 0 + 2 * cond (W.summary a) 1 0

abbrev pub record_of : Format → ℕ → Shape → List ℕ
record_of F p W =
    p ∷ W.size
    ∷ (each W.size (λ a. bytes F.width (W.mask a) ++ (flags_of W a ∷ []))
    ++ each W.size (λ a. each W.size (λ b. code (W.n.link a b) ∷ [])))

-- ---- the file

abbrev pub claim_of : Format → List ℕ → Claim
claim_of F f = record {
  vars = file.vars f;
  points = file.points f;
  shapes = file.shapes f;
  op = λ p. cond (ltb p (file.points f)) (op_at f (point_at p)) stop;
  point = file.point F f;
  shape = λ i. shape_of F (part F f i);
}

abbrev pub claim : List ℕ → Claim
claim f = claim_of (format (version f)) f
