-- "Examples": T1 to T11 as one list, in the paper's notation. proofs/Worked computes them.
use Rattle.std.specs.Prelude.{ℕ, ◌/◌, ◌%◌, Bool, true, false, cond, ◌&&◌, List, [], ◌∷◌, map, eqb, length, get_or}
use Rattle.model.specs.Truth.{Truth, 𝟘, 𝟙, ½}
use Rattle.model.specs.Store.{Op, set_new, load, cut, store, is_same}
use Rattle.model.specs.Shape.{Shape}
use Rattle.model.specs.Step.{outcomes}
use Rattle.model.specs.Format.{version_1}
use Rattle.model.specs.Claim.{record_of}

infix 80 ◌to◌is◌
infix 20 ◌with_links◌
-- ---- "Shapes: key, `s` for summary; unnamed links are 0."

pub record Individual : Type 0 where
  pub key : ℕ
  pub summary : Bool

abbrev pub one : ℕ → Individual
one k = record { key = k; summary = false }

abbrev pub many : ℕ → Individual
many k = record { key = k; summary = true }

pub record Arrow : Type 0 where
  pub source : ℕ
  pub target : ℕ
  pub value : Truth

abbrev pub ◌to◌is◌ : ℕ → ℕ → Truth → Arrow
◌to◌is◌ a b v = record { source = a; target = b; value = v }

abbrev individual : List Individual → ℕ → Individual
individual l a = get_or l a (one 0)

abbrev value_of : List Arrow → ℕ → ℕ → Truth
value_of [] a b = 𝟘
value_of (r ∷ l) a b = cond (eqb r.source a && eqb r.target b) r.value (value_of l a b)

abbrev pub ◌with_links◌ : List Individual → List Arrow → Shape
◌with_links◌ l arrows = record {
  size = length l;
  mask = λ a. (individual l a).key % 256;
  summary = λ a. (individual l a).summary;
  n = record {
    shared = λ a. eqb ((individual l a).key / 256) 1;
    link = λ a b. value_of arrows (individual l a).key (individual l b).key;
  };
}

-- ---- an example, and what the definitions make of it

-- the results, each as the shape record that lists it at its successor
pub record Example : Type 0 where
  pub start : Shape
  pub op : Op
  pub gives : List (List ℕ)

abbrev pub at_7 : List Shape → List (List ℕ)
at_7 = map (record_of version_1 7)

abbrev pub computed : Example → List (List ℕ)
computed e = map (λ r. record_of version_1 r.0 r.1) (outcomes e.op e.start)

abbrev pub ex : Shape → Op → List Shape → Example
ex W o l = record { start = W; op = o; gives = at_7 l }

abbrev empty : Shape
empty = [] with_links []

abbrev t2 : Shape
t2 = (one 0 ∷ one 1 ∷ []) with_links []

abbrev t6_start : Shape
t6_start = (one 1 ∷ one 2 ∷ []) with_links (1 to 1 is 𝟙 ∷ [])

abbrev t6_result : Shape
t6_result = (one 2 ∷ one 257 ∷ []) with_links (257 to 257 is 𝟙 ∷ 2 to 257 is 𝟙 ∷ [])

abbrev t9_result : Shape
t9_result = (one 1 ∷ one 2 ∷ []) with_links (1 to 2 is 𝟙 ∷ [])

unfoldable pub t1_to_t11 : List Example
t1_to_t11 =
    -- T1 "empty, x0 = new: {1}"
    ex empty (set_new 0 7) (((one 1 ∷ []) with_links []) ∷ [])
    -- T2 "{1}, x0 = new: {0, 1}"
    ∷ ex ((one 1 ∷ []) with_links []) (set_new 0 7) (t2 ∷ [])
    -- T3 "{0, 1}, x0 = new: {0s, 1}"
    ∷ ex t2 (set_new 0 7) (((many 0 ∷ one 1 ∷ []) with_links []) ∷ [])
    -- T4 "{0}, x0->n = null: no result"
    ∷ ex ((one 0 ∷ []) with_links []) (cut 0 7) []
    -- T5 "{1}, x0->n = x0: {1}, link 1 to 1 is 1, unshared"
    ∷ ex ((one 1 ∷ []) with_links []) (store 0 0 7) (((one 1 ∷ []) with_links (1 to 1 is 𝟙 ∷ [])) ∷ [])
    -- T6 "{1, 2} with 1 linked to itself, x1->n = x0: {2, 257}, links 257 to 257 and 2 to 257 are 1"
    ∷ ex t6_start (store 1 0 7) (t6_result ∷ [])
    -- T7 "T6's result, x1->n = null: T6's start, nothing else"
    ∷ ex t6_result (cut 1 7) (t6_start ∷ [])
    -- T8 "{0s, 1}, links 1 to 0 and 0 to 0 are 1/2, x1 = x0->n: three results: {0s, 1} with 0 to 0 at 1/2; {1, 2} with 1
    -- to 2; {0s, 1, 2} with 1 to 2 at 1, 2 to 0 and 0 to 0 at 1/2"
    ∷ ex ((many 0 ∷ one 1 ∷ []) with_links (1 to 0 is ½ ∷ 0 to 0 is ½ ∷ [])) (load 1 0 7)
    (((many 0 ∷ one 1 ∷ []) with_links (0 to 0 is ½ ∷ []))
    ∷ t9_result
    ∷ ((many 0 ∷ one 1 ∷ one 2 ∷ []) with_links (1 to 2 is 𝟙 ∷ 2 to 0 is ½ ∷ 0 to 0 is ½ ∷ []))
    ∷ [])
    -- T9 "as T8 with link 1 to 0 at 1: only {1, 2} with 1 to 2"
    ∷ ex ((many 0 ∷ one 1 ∷ []) with_links (1 to 0 is 𝟙 ∷ 0 to 0 is ½ ∷ [])) (load 1 0 7) (t9_result ∷ [])
    -- T10 "empty, x0 == x1: the yes branch"
    ∷ ex empty (is_same 0 1 7 8) (empty ∷ [])
    -- T11 "{0, 1, 2}, link 0 to 1 is 1/2, x1->n = x0: {0, 1, 2} with 2 to 1; {0, 2, 257} with 2 to 257 at 1, 0 to 257 at
    -- 1/2"
    ∷ ex ((one 0 ∷ one 1 ∷ one 2 ∷ []) with_links (0 to 1 is ½ ∷ [])) (store 1 0 7)
    (((one 0 ∷ one 1 ∷ one 2 ∷ []) with_links (2 to 1 is 𝟙 ∷ []))
    ∷ ((one 0 ∷ one 2 ∷ one 257 ∷ []) with_links (2 to 257 is 𝟙 ∷ 0 to 257 is ½ ∷ []))
    ∷ [])
    ∷ []
