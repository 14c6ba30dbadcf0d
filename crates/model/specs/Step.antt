-- "One step of a shape": opening, settling, clearing and the ten ops. "Results are listed in the order given here."
use Rattle.std.specs.Prelude.{ℕ, suc, Bool, true, false, cond, not, ◌&&◌, ◌||◌, List, [], ◌∷◌, ◌++◌, map, eqb, leb}
use Rattle.model.specs.Truth.{Truth, 𝟘, 𝟙, may, must, half, sure}
use Rattle.model.specs.Finite.{Ref, null, at, is, null_ref, equal, any, count, given, each, in_each, put}
use Rattle.model.specs.Store.{Op, stop, go, set_null, set_var, set_new, load, cut, store, is_null, is_same, at_point}
use Rattle.model.specs.Shape.{Links, Shape, holder}
use Rattle.model.specs.Fold.{fold}

-- "A working shape has at most 11 individuals": the V + 2 of a shape and one more (Few of `sound` shows that it suffices)
abbrev pub edge : ℕ
edge = 11

-- ---- changes of the links

-- the links from u become f
abbrev pub from : ℕ → (ℕ → Truth) → Links → Links
from u f L = record { shared = L.shared; link = λ a b. cond (eqb a u) (f b) (L.link a b) }

-- the links into t go through f, which is told where each comes from
abbrev pub into : ℕ → (ℕ → Truth → Truth) → Links → Links
into t f L = record { shared = L.shared; link = λ a b. cond (eqb b t) (f a (L.link a b)) (L.link a b) }

-- t becomes shared, or unshared
abbrev pub sharing : ℕ → Bool → Links → Links
sharing t s L = record { shared = λ a. cond (eqb a t) s (L.shared a); link = L.link }

abbrev pub with_n : Shape → Links → Shape
with_n W L = record { size = W.size; mask = W.mask; summary = W.summary; n = L }

-- the value from u becomes w
abbrev pub from_u : ℕ → Truth → ℕ → Truth → Truth
from_u u w a v = cond (eqb a u) w v

-- "every 1/2 .. from an individual other than u"
abbrev pub sure_but : ℕ → ℕ → Truth → Truth
sure_but u a v = cond (eqb a u) v (sure v)

-- ---- "Opening u (u holds a variable)."

pub record Opened : Type 0 where
  pub shape : Shape
  pub target : Ref

-- "no target, all links of u become 0; given if no link of u is 1"
abbrev pub no_target : Shape → ℕ → List Opened
no_target W u =
    given (not (any W.size (λ b. must (W.n.link u b))))
    (record { shape = with_n W (from u (λ b. 𝟘) W.n); target = null })

-- "v whole: v is no summary now, its link from u is 1, other links of u are 0"
abbrev pub whole : Shape → ℕ → ℕ → Shape
whole W u v = record {
  size = W.size;
  mask = W.mask;
  summary = λ a. not (eqb a v) && W.summary a;
  n = from u (λ b. cond (eqb b v) 𝟙 𝟘) W.n;
}

-- "v divided": a second individual, the last one, that copies "v's key and all its other link values; values between
-- target and rest, and each to itself, copy v's value to itself". Then v whole: v is the target, the new one the rest.
abbrev pub copy : ℕ → ℕ → ℕ → ℕ
copy rest v a = cond (eqb a rest) v a

abbrev pub copied : (ℕ → ℕ) → Links → Links
copied c L = record { shared = λ a. L.shared (c a); link = λ a b. L.link (c a) (c b) }

abbrev pub divided : Shape → ℕ → Shape
divided W v = record {
  size = suc W.size;
  mask = λ a. W.mask (copy W.size v a);
  summary = λ a. W.summary (copy W.size v a);
  n = copied (copy W.size v) W.n;
}

-- "Then settle the target t. If t is unshared: drop the result when an individual other than u has link 1 into t, else
-- set every 1/2 into t from an individual other than u to 0. If t is shared: drop it when all individuals other than u
-- have 0 into t."
abbrev pub settled : Shape → ℕ → ℕ → List Opened
settled W u t =
    cond (W.n.shared t)
    (given (any W.size (λ a. not (eqb a u) && may (W.n.link a t))) (record { shape = W; target = at t }))
    (given (not (any W.size (λ a. not (eqb a u) && must (W.n.link a t))))
    (record { shape = with_n W (into t (sure_but u) W.n); target = at t }))

-- "v .. with a nonzero link from u, given if no other individual has link 1 from u"
abbrev pub no_other : Shape → ℕ → ℕ → Bool
no_other W u v = not (any W.size (λ b. not (eqb b v) && must (W.n.link u b)))

abbrev pub possible : Shape → ℕ → ℕ → Bool
possible W u v = may (W.n.link u v) && no_other W u v

-- "if v was a summary and the link was 1/2"
abbrev pub divides : Shape → ℕ → ℕ → Bool
divides W u v = W.summary v && half (W.n.link u v)

abbrev pub targets : Shape → ℕ → ℕ → List Opened
targets W u v =
    cond (possible W u v)
    (settled (whole W u v) u v ++ cond (divides W u v) (settled (whole (divided W v) u v) u v) [])
    []

-- "First result: no target .. Then, for each individual v in key order"
abbrev pub opened : Shape → ℕ → List Opened
opened W u = no_target W u ++ each W.size (targets W u)

-- ---- "Clearing u. Open u."

-- how many individuals have 1 into t, and how many a nonzero link
abbrev pub ones : Shape → ℕ → ℕ
ones W t = count W.size (λ a. must (W.n.link a t))

abbrev pub mays : Shape → ℕ → ℕ
mays W t = count W.size (λ a. may (W.n.link a t))

-- "t unshared, given if at most one individual has 1 into t (and if exactly one has, every 1/2 into t becomes 0)"
abbrev pub sure_if : Bool → ℕ → Truth → Truth
sure_if b a v = cond b (sure v) v

abbrev pub now_unshared : Shape → ℕ → List Shape
now_unshared W t =
    given (leb (ones W t) 1) (with_n W (sharing t false (into t (sure_if (eqb (ones W t) 1)) W.n)))

-- "t still shared, given if at least two individuals have nonzero links into t, or if a summary has a nonzero link into t"
abbrev pub summary_may : Shape → ℕ → Bool
summary_may W t = any W.size (λ a. W.summary a && may (W.n.link a t))

abbrev pub still_shared : Shape → ℕ → List Shape
still_shared W t = given (leb 2 (mays W t) || summary_may W t) W

-- "Without target, done. Else set u's link to t to 0. If t was unshared, done. If shared, up to two results"
abbrev pub unlinked : ℕ → Shape → Ref → List Shape
unlinked u W null = W ∷ []
unlinked u W (at t) =
    let W₁ : Shape = with_n W (into t (from_u u 𝟘) W.n) in
    cond (W.n.shared t) (now_unshared W₁ t ++ still_shared W₁ t) (W₁ ∷ [])

abbrev pub cleared : Shape → ℕ → List Shape
cleared W u = in_each (λ o. unlinked u o.shape o.target) (opened W u)

-- ---- linking, in op 7

-- "first result, given if no link into w is 1: all links into w become 0, w stays unshared"
abbrev pub all_zero : ℕ → Truth → Truth
all_zero a v = 𝟘

abbrev pub links_first : ℕ → ℕ → Shape → List Shape
links_first u w W =
    given (not (any W.size (λ a. must (W.n.link a w)))) (with_n W (into w (from_u u 𝟙) (into w all_zero W.n)))

-- "second, given if some link into w is nonzero: w becomes shared, other links stay"
abbrev pub links_second : ℕ → ℕ → Shape → List Shape
links_second u w W =
    given (any W.size (λ a. may (W.n.link a w))) (with_n W (into w (from_u u 𝟙) (sharing w true W.n)))

-- "if y is null, done; else let w hold y. If w is shared, the link from u to w becomes 1. If not: .. In each the link from u
-- to w is then 1."
abbrev pub linked : ℕ → Ref → Shape → List Shape
linked u null W = W ∷ []
linked u (at w) W =
    cond (W.n.shared w) (with_n W (into w (from_u u 𝟙) W.n) ∷ []) (links_first u w W ++ links_second u w W)

-- ---- moving a variable and a new individual

-- "the variable moves": x is held by r alone, or by none
abbrev pub moved : Shape → ℕ → Ref → Shape
moved W x r =
    record { size = W.size; mask = λ a. put x (is r a) (W.mask a); summary = W.summary; n = W.n }

-- "a new individual, unshared and no summary, holding x alone, all links 0": the last one
abbrev pub grown : ℕ → Links → Links
grown new L = record {
  shared = λ a. cond (eqb a new) false (L.shared a);
  link = λ a b. cond (eqb a new) 𝟘 (cond (eqb b new) 𝟘 (L.link a b));
}

abbrev pub fresh : Shape → ℕ → Shape
fresh W x = record {
  size = suc W.size;
  mask = λ a. cond (eqb a W.size) (put x true 0) (put x false (W.mask a));
  summary = λ a. not (eqb a W.size) && W.summary a;
  n = grown W.size W.n;
}

-- ---- "Steps."

-- "Null in 5, 6, 7 as above: no results."
abbrev pub at_holder : Ref → (ℕ → List Shape) → List Shape
at_holder null f = []
at_holder (at u) f = f u

-- 5: "open y's individual, then x moves to the target, or is null"
abbrev pub loaded : ℕ → ℕ → Shape → List Shape
loaded x y W = at_holder (holder W y) (λ u. map (λ o. moved o.shape x o.target) (opened W u))

-- 6: "clear x's individual"
abbrev pub cut_off : ℕ → Shape → List Shape
cut_off x W = at_holder (holder W x) (cleared W)

-- 7: "clear x's individual u; then, for each result of that in turn". Clearing moves no variable, so that y's
-- individual is looked up once.
abbrev pub stored : ℕ → ℕ → Shape → List Shape
stored x y W = at_holder (holder W x) (λ u. in_each (linked u (holder W y)) (cleared W u))

-- the results before folding, each with its successor. 2, 3: "the variable moves, by its value before the step".
-- 8, 9: "the shape itself, on the branch it decides"
abbrev pub results : Op → Shape → List (ℕ × Shape)
results stop W = []
results (go s) W = (s, W) ∷ []
results (set_null x s) W = (s, moved W x null) ∷ []
results (set_var x y s) W = (s, moved W x (holder W y)) ∷ []
results (set_new x s) W = (s, fresh W x) ∷ []
results (load x y s) W = at_point s (loaded x y W)
results (cut x s) W = at_point s (cut_off x W)
results (store x y s) W = at_point s (stored x y W)
results (is_null x s₁ s₂) W = (cond (null_ref (holder W x)) s₁ s₂, W) ∷ []
results (is_same x y s₁ s₂) W = (cond (equal (holder W x) (holder W y)) s₁ s₂, W) ∷ []

-- "Folding ends every step"
abbrev pub folded_result : ℕ × Shape → ℕ × Shape
folded_result r = (r.0, fold r.1)

abbrev pub outcomes : Op → Shape → List (ℕ × Shape)
outcomes o W = map folded_result (results o W)
