-- "Shapes and fit": what a shape is, when a store fits one, and when one shape is covered by another.
use Rattle.std.specs.Prelude.{ℕ, zero, suc, ◌+◌, ◌*◌, ◌<◌, Bool, true, false, cond, not, ◌&&◌, ◌||◌, ◌≡◌, eqb, ltb}
use Rattle.std.specs.Bool.{beq}
use Rattle.model.specs.Truth.{Truth, 𝟘, 𝟙, under}
use Rattle.model.specs.Finite.{Ref, at, is, every, first, bit}
use Rattle.model.specs.Store.{Store, shared_by}

-- what a shape says of the link: which individuals are shared, and for "each ordered pair .. a link value"
pub record Links : Type 0 where
  pub shared : ℕ → Bool
  pub link : ℕ → ℕ → Truth

-- "A shape has individuals", here 0, 1 .. below `size`, in key order. "Each has a set of variables, a shared bit and a
-- summary bit"
pub record Shape : Type 0 where
  pub size : ℕ
  pub mask : ℕ → ℕ
  pub summary : ℕ → Bool
  pub n : Links

-- "a variable held by no individual is null": the individual that holds x, or null
abbrev pub holder : Shape → ℕ → Ref
holder W x = first W.size (λ a. bit x (W.mask a))

-- ---- keys

-- "256 times its shared bit plus its variable mask": 256 is the weight of the shared bit in version 1
abbrev pub key : ℕ → Shape → ℕ → ℕ
key weight W a = weight * cond (W.n.shared a) 1 0 + W.mask a

-- Two keys are one if mask and shared bit are, and the shared bit decides their order before the mask does: for masks
-- below the weight that is the order of the numbers (Keys of `sound`), so that no definition below depends on the weight.
abbrev pub same_key : Shape → ℕ → ℕ → Bool
same_key W a b = eqb (W.mask a) (W.mask b) && beq (W.n.shared a) (W.n.shared b)

-- the bits s and t decide, and where they are equal r does
abbrev pub by_bit : Bool → Bool → Bool → Bool
by_bit s t r = cond (beq s t) r t

abbrev pub key_before : Shape → ℕ → ℕ → Bool
key_before W a b = by_bit (W.n.shared a) (W.n.shared b) (ltb (W.mask a) (W.mask b))

-- ---- what the file allows of a shape with V variables

-- "a variable is held by at most one individual, and one that holds a variable is no summary"
pub record Held (vars : ℕ) (W : Shape) : Type 0 where
  pub once : (x a b : ℕ) → a < W.size → b < W.size → bit x (W.mask a) ≡ true → bit x (W.mask b) ≡ true → a ≡ b
  pub plain : (x a : ℕ) → a < W.size → bit x (W.mask a) ≡ true → W.summary a ≡ false
  -- it is one of the V variables
  pub known : (x a : ℕ) → a < W.size → bit x (W.mask a) ≡ true → x < vars

-- "Keys in a shape differ": they ascend
pub record Allowed (vars : ℕ) (W : Shape) : Type 0 where
  pub ascend : (a b : ℕ) → a < b → b < W.size → key_before W a b ≡ true
  pub held : Held vars W

-- ---- fit

-- "the variables on it": the mask of a cell, of the first `vars` variables
abbrev pub own_mask : ℕ → (ℕ → Ref) → ℕ → ℕ
own_mask zero var c = 0
own_mask (suc vars) var c = cond (is (var 0) c) 1 0 + 2 * own_mask vars (λ x. var (suc x)) c

-- "every cell's own key (the variables on it, whether it is shared)": the cell c has the key of the individual i
pub record Of (vars : ℕ) (σ : Store) (T : Shape) (c i : ℕ) : Type 0 where
  pub mask : own_mask vars σ.var c ≡ T.mask i
  pub shared : shared_by σ.size σ.n c ≡ T.n.shared i

-- what the values of L say of the cells' links f
pub record Says (vars : ℕ) (σ : Store) (T : Shape) (f : ℕ → Ref) (L : Links) : Type 0 where
  -- "a link value 1 from a to b says every cell of a links to every cell of b"
  pub one : (a b c d : ℕ) → a < T.size → b < T.size → c < σ.size → d < σ.size → Of vars σ T c a → Of vars σ T d b → L.link a b ≡ 𝟙 → f c ≡ at d
  -- "0 says none does"
  pub zero : (a b c d : ℕ) → a < T.size → b < T.size → c < σ.size → d < σ.size → Of vars σ T c a → Of vars σ T d b → L.link a b ≡ 𝟘 → f c ≡ at d → ⊥

-- "A store fits a shape if":
pub record Fits (vars : ℕ) (σ : Store) (T : Shape) : Type 0 where
  -- "every cell's own key .. is a key of the shape"
  pub known : (c : ℕ) → c < σ.size → (a : ℕ) × (a < T.size) × Of vars σ T c a
  -- "every key has at least one cell,
  pub inhabited : (a : ℕ) → a < T.size → (c : ℕ) × (c < σ.size) × Of vars σ T c a
  -- .. exactly one if not summary"
  pub alone : (a c d : ℕ) → a < T.size → c < σ.size → d < σ.size → T.summary a ≡ false → Of vars σ T c a → Of vars σ T d a → c ≡ d
  pub n : Says vars σ T σ.n T.n

-- ---- covered

-- a's shared bit is the same in L and M, and its "link values .. lie under" those of M
abbrev pub links_covered : ℕ → Links → Links → ℕ → Bool
links_covered size L M a =
    beq (L.shared a) (M.shared a) && every size (λ b. under (L.link a b) (M.link a b))

-- a's mask is the same in R and T, and "a summary in R is one in T"
abbrev pub covered_at : Shape → Shape → ℕ → Bool
covered_at R T a =
    eqb (R.mask a) (T.mask a) && ((not (R.summary a) || T.summary a) && links_covered R.size R.n T.n a)

-- "Shape R is covered by T if they have the same keys": as many, and each at its place, for both are in key order
abbrev pub covered : Shape → Shape → Bool
covered R T = eqb R.size T.size && every R.size (covered_at R T)
