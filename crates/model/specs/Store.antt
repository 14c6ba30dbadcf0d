-- "Stores and runs": what a store is, what each op does to one, and where a run can come to.
use Rattle.std.specs.Prelude.{ℕ, suc, ◌<◌, Bool, false, cond, List, [], ◌∷◌, map, ◌≡◌, eqb, leb}
use Rattle.model.specs.Finite.{Ref, null, at, is, null_ref, equal, count, ◌∈◌}

-- "A store has finitely many cells", here 0, 1 .. below `size`. "Each of V variables is null or a cell; each cell's
-- link n is null or a cell."
pub record Store : Type 0 where
  pub size : ℕ
  pub var : ℕ → Ref
  pub n : ℕ → Ref

-- .. and no variable and no link leads anywhere else
pub record Proper (vars : ℕ) (σ : Store) : Type 0 where
  pub var : (x c : ℕ) → x < vars → σ.var x ≡ at c → c < σ.size
  pub n : (a c : ℕ) → a < σ.size → σ.n a ≡ at c → c < σ.size

-- "A cell is shared if two different cells link to it", by the links f of `size` cells
abbrev pub shared_by : ℕ → (ℕ → Ref) → ℕ → Bool
shared_by size f c = leb 2 (count size (λ a. is (f a) c))

-- ---- the ops, with their variables and successors

pub data Op : Type 0 where
  -- 0, 1
  stop : Op
  go : ℕ → Op
  -- 2 "x = null", 3 "x = y", 4 "x = new"
  set_null : ℕ → ℕ → Op
  set_var : ℕ → ℕ → ℕ → Op
  set_new : ℕ → ℕ → Op
  -- 5 "x = y->n", 6 "x->n = null", 7 "x->n = y"
  load : ℕ → ℕ → ℕ → Op
  cut : ℕ → ℕ → Op
  store : ℕ → ℕ → ℕ → Op
  -- 8 "x == null?", 9 "x == y?": "yes s1, no s2"
  is_null : ℕ → ℕ → ℕ → Op
  is_same : ℕ → ℕ → ℕ → ℕ → Op

-- the variable that an op goes through: "y in 5, x in 6 and 7"
abbrev pub goes_through : Op → Ref
goes_through stop = null
goes_through (go s) = null
goes_through (set_null x s) = null
goes_through (set_var x y s) = null
goes_through (set_new x s) = null
goes_through (load x y s) = at y
goes_through (cut x s) = at x
goes_through (store x y s) = at x
goes_through (is_null x s₁ s₂) = null
goes_through (is_same x y s₁ s₂) = null

abbrev pub null_at : Ref → Store → Bool
null_at null σ = false
null_at (at x) σ = null_ref (σ.var x)

-- the op goes through null in this store
abbrev pub through_null : Op → Store → Bool
through_null o = null_at (goes_through o)

-- ---- one step of a store: every next store, with the point it is at

-- f with r at x
abbrev pub change : ℕ → Ref → (ℕ → Ref) → ℕ → Ref
change x r f y = cond (eqb y x) r (f y)

abbrev pub with_var : ℕ → Ref → Store → Store
with_var x r σ = record { size = σ.size; var = change x r σ.var; n = σ.n }

abbrev pub with_link : ℕ → Ref → Store → Store
with_link c r σ = record { size = σ.size; var = σ.var; n = change c r σ.n }

-- "allocation always succeeds and gives a new cell with a null link"
abbrev pub with_new : ℕ → Store → Store
with_new x σ =
    record { size = suc σ.size; var = change x (at σ.size) σ.var; n = change σ.size null σ.n }

-- "Going through null .. ends the run with no next store."
abbrev pub through : Ref → (ℕ → Store) → List Store
through null f = []
through (at c) f = f c ∷ []

-- the ops through n
abbrev pub loads : ℕ → ℕ → Store → List Store
loads x y σ = through (σ.var y) (λ c. with_var x (σ.n c) σ)

abbrev pub cuts : ℕ → Store → List Store
cuts x σ = through (σ.var x) (λ c. with_link c null σ)

abbrev pub stores : ℕ → ℕ → Store → List Store
stores x y σ = through (σ.var x) (λ c. with_link c (σ.var y) σ)

-- all at the point s
abbrev pub at_point : {A : Type 0} → ℕ → List A → List (ℕ × A)
at_point {A} s = map (λ (a : A). (s, a))

abbrev pub next_stores : Op → Store → List (ℕ × Store)
next_stores stop σ = []
next_stores (go s) σ = (s, σ) ∷ []
next_stores (set_null x s) σ = (s, with_var x null σ) ∷ []
next_stores (set_var x y s) σ = (s, with_var x (σ.var y) σ) ∷ []
next_stores (set_new x s) σ = (s, with_new x σ) ∷ []
next_stores (load x y s) σ = at_point s (loads x y σ)
next_stores (cut x s) σ = at_point s (cuts x σ)
next_stores (store x y s) σ = at_point s (stores x y σ)
next_stores (is_null x s₁ s₂) σ = (cond (null_ref (σ.var x)) s₁ s₂, σ) ∷ []
next_stores (is_same x y s₁ s₂) σ = (cond (equal (σ.var x) (σ.var y)) s₁ s₂, σ) ∷ []

-- ---- runs

-- "A run starts at point 0"; after any finite number of steps it stands at a point with a store
pub data Run (op : ℕ → Op) (σ₀ : Store) : ℕ → Store → Type 0 where
  begins : Run op σ₀ 0 σ₀
  goes_on : {p s : ℕ} {σ τ : Store} → Run op σ₀ p σ → (s, τ) ∈ next_stores (op p) σ → Run op σ₀ s τ
