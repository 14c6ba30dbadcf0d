-- The finite things that the paper's words count and search: numbers below a bound, lists of results, variable masks.
use Rattle.std.specs.Prelude.{ℕ, zero, suc, ◌+◌, ◌*◌, ◌/◌, ◌%◌, Bool, true, false, cond, ◌&&◌, ◌||◌, List, [], ◌∷◌, ◌++◌, ◌≡◌, eqb}

infix 50 ◌∈◌
-- ---- references

-- null, or the cell or individual of this number
pub data Ref : Type 0 where
  null : Ref
  at : ℕ → Ref

-- r is at a
abbrev pub is : Ref → ℕ → Bool
is null a = false
is (at b) a = eqb a b

abbrev pub null_ref : Ref → Bool
null_ref null = true
null_ref (at a) = false

-- "null equals null"
abbrev pub equal : Ref → Ref → Bool
equal null null = true
equal null (at b) = false
equal (at a) null = false
equal (at a) (at b) = eqb a b

-- ---- the numbers below n

-- some number below n passes the test
abbrev pub any : ℕ → (ℕ → Bool) → Bool
any zero p = false
any (suc n) p = any n p || p n

-- every number below n does
abbrev pub every : ℕ → (ℕ → Bool) → Bool
every zero p = true
every (suc n) p = every n p && p n

-- how many do
abbrev pub count : ℕ → (ℕ → Bool) → ℕ
count zero p = 0
count (suc n) p = count n p + cond (p n) 1 0

-- the first that does: what was found below n, or else n itself if it passes
abbrev pub found : Ref → Bool → ℕ → Ref
found (at a) b n = at a
found null true n = at n
found null false n = null

abbrev pub first : ℕ → (ℕ → Bool) → Ref
first zero p = null
first (suc n) p = found (first n p) (p n) n

-- from v, one change for each number below n
abbrev pub sweep {ℓ} : {A : Type ℓ} → ℕ → (ℕ → A → A) → A → A
sweep zero f v = v
sweep (suc n) f v = f n (sweep n f v)

-- ---- lists of results

-- "given if": the one result, or none
abbrev pub given {ℓ} : {A : Type ℓ} → Bool → A → List A
given true a = a ∷ []
given false a = []

-- the results for 0, for 1 .. below n, in this order
abbrev pub each {ℓ} : {A : Type ℓ} → ℕ → (ℕ → List A) → List A
each zero f = []
each (suc n) f = each n f ++ f n

-- "for each result of that in turn"
abbrev pub in_each {ℓ κ} : {A : Type ℓ} {B : Type κ} → (A → List B) → List A → List B
in_each f [] = []
in_each f (a ∷ l) = f a ++ in_each f l

-- some element of the list has P
pub data Some {A : Type 0} (P : A → Type 0) : List A → Type 0 where
  here : {x : A} {l : List A} → P x → Some P (x ∷ l)
  there : {x : A} {l : List A} → Some P l → Some P (x ∷ l)

abbrev pub ◌∈◌ : {A : Type 0} → A → List A → Type 0
◌∈◌ {A} a l = Some (λ (b : A). b ≡ a) l

-- ---- masks: "variable i is bit i"

-- x is in the set
abbrev pub bit : ℕ → ℕ → Bool
bit zero m = eqb (m % 2) 1
bit (suc x) m = bit x (m / 2)

-- the set with x in it, or without x
abbrev pub put : ℕ → Bool → ℕ → ℕ
put zero b m = cond b 1 0 + 2 * (m / 2)
put (suc x) b m = m % 2 + 2 * put x b (m / 2)
