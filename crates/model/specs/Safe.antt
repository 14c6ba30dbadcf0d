-- Demand 3: what acceptance promises of every run of the program, from every store that fits an entry shape.
use Rattle.std.specs.Prelude.{ℕ, ◌/◌, ◌%◌, ◌<◌, false, List, ◌≡◌}
use Rattle.model.specs.Finite.{at, Some}
use Rattle.model.specs.Store.{Store, Proper, Run, through_null}
use Rattle.model.specs.Shape.{Fits}
use Rattle.model.specs.Claim.{Claim, listed, claim}
use Rattle.model.specs.Verdict.{verdict, accepted, answer_byte}

-- "any finite store that fits an entry shape and any finite number of steps": σ is a store so reached, at the point p
pub record Reached (C : Claim) (p : ℕ) (σ : Store) : Type 0 where
  pub entry : Store
  pub proper : Proper C.vars entry
  pub fits : Some (Fits C.vars entry) (listed C 0)
  pub run : Run C.op entry p σ

pub record Safe (C : Claim) : Type 0 where
  -- "the store reached fits a shape listed where it stands"
  pub fits : (p : ℕ) (σ : Store) → Reached C p σ → Some (Fits C.vars σ) (listed C p)
  -- "at a point marked excluded the next step never goes through null"
  pub excluded : (p : ℕ) (σ : Store) → Reached C p σ → answer_byte C p % 4 ≡ 1 → through_null (C.op p) σ ≡ false
  -- "at one marked unshared no cell is linked from two cells"
  pub unshared : (p : ℕ) (σ : Store) → Reached C p σ → answer_byte C p / 4 % 2 ≡ 1 → (a b c : ℕ) → a < σ.size → b < σ.size → σ.n a ≡ at c → σ.n b ≡ at c → a ≡ b
  -- "one marked never reached isn't reached"
  pub never_reached : (p : ℕ) (σ : Store) → Reached C p σ → answer_byte C p ≡ 3 → ⊥

-- "From an accepted claim": for every sequence of bytes and every length of the answer buffer
abbrev pub Demand3 : Type 0
Demand3 = (f : List ℕ) (room a b : ℕ) → verdict f room ≡ accepted a b → Safe (claim f)
