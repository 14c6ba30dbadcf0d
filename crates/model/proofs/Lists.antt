-- Lists of results: what holds of every one and of some one, and when each on the left is met by some on the right.
use Prim.Native.Nat.{ℕ, zero, suc, ◌<◌}
use mathlib.Core.Bool.{Bool, true, false, cond}
use mathlib.Core.List.{List, [], ◌∷◌, ◌++◌, map}
use mathlib.Core.Path.{◌≡◌, refl, subst}
use native.Mathlib.Omega.{arith}
use Rattle.model.specs.Finite.{Some, here, there, given, each, in_each}
use Rattle.model.proofs.Bools.{clash, top_or_below}

-- every element of the list has P
pub data All {A : Type 0} (P : A → Type 0) : List A → Type 0 where
  none : All P []
  also : {x : A} {l : List A} → P x → All P l → All P (x ∷ l)

module _ {A : Type 0} {P : A → Type 0} where
  pub some_left : {l : List A} (m : List A) → Some P l → Some P (l ++ m)
  some_left m (here p) = here p
  some_left m (there s) = there (some_left m s)

  pub some_right : (l : List A) {m : List A} → Some P m → Some P (l ++ m)
  some_right [] s = s
  some_right (x ∷ l) s = there (some_right l s)

  pub some_each : (n : ℕ) (f : ℕ → List A) (v : ℕ) → v < n → Some P (f v) → Some P (each n f)
  some_each zero f v h s = absurd (omega arith)
  some_each (suc n) f v h s =
      top_or_below n v h
      (λ q. some_right (each n f) (subst (λ (x : ℕ). Some P (f x)) q s))
      (λ k. some_left (f n) (some_each n f v k s))

  pub all_append : {l m : List A} → All P l → All P m → All P (l ++ m)
  all_append none t = t
  all_append (also p s) t = also p (all_append s t)

  pub all_each : (n : ℕ) (f : ℕ → List A) → ((v : ℕ) → v < n → All P (f v)) → All P (each n f)
  all_each zero f h = none
  all_each (suc n) f h = all_append (all_each n f (λ v k. h v (omega arith))) (h n (omega arith))

  pub all_cond : (b : Bool) {l m : List A} → (b ≡ true → All P l) → (b ≡ false → All P m) → All P (cond b l m)
  all_cond true f g = f refl
  all_cond false f g = g refl

module _ {A : Type 0} (P : A → Type 0) where
  pub some_given : (b : Bool) (a : A) → b ≡ true → P a → Some P (given b a)
  some_given true a e p = here p
  some_given false a e p = clash e refl

  pub all_given : (b : Bool) (a : A) → (b ≡ true → P a) → All P (given b a)
  all_given true a f = also (f refl) none
  all_given false a f = none

module _ {A : Type 0} {P Q : A → Type 0} where
  pub all_weak : {l : List A} → ((a : A) → P a → Q a) → All P l → All Q l
  all_weak f none = none
  all_weak f (also {x = x} p s) = also (f x p) (all_weak f s)

  pub some_weak : {l : List A} → ((a : A) → P a → Q a) → Some P l → Some Q l
  some_weak f (here {x = x} p) = here (f x p)
  some_weak f (there s) = there (some_weak f s)

  pub all_zip : {l : List A} → All P l → All Q l → All (λ a. P a × Q a) l
  all_zip none none = none
  all_zip (also p s) (also q t) = also (p, q) (all_zip s t)

  -- what holds of each holds of the one
  pub all_some : {C : Type 0} {l : List A} → ((a : A) → P a → Q a → C) → All P l → Some Q l → C
  all_some f none t = elim t [ ]
  all_some f (also {x = x} p s) (here q) = f x p q
  all_some f (also p s) (there t) = all_some f s t

module _ {A B : Type 0} {P : B → Type 0} where
  pub some_in_each : (f : A → List B) {l : List A} → Some (λ a. Some P (f a)) l → Some P (in_each f l)
  some_in_each f (here {l = l} s) = some_left (in_each f l) s
  some_in_each f (there {x = x} s) = some_right (f x) (some_in_each f s)

  pub all_in_each : (f : A → List B) {l : List A} → All (λ a. All P (f a)) l → All P (in_each f l)
  all_in_each f none = none
  all_in_each f (also p s) = all_append p (all_in_each f s)

module _ {A B : Type 0} (P : B → Type 0) where
  pub some_map : (f : A → B) {l : List A} → Some (λ a. P (f a)) l → Some P (map f l)
  some_map f (here p) = here p
  some_map f (there s) = there (some_map f s)

  pub all_map : (f : A → B) {l : List A} → All (λ a. P (f a)) l → All P (map f l)
  all_map f none = none
  all_map f (also p s) = also p (all_map f s)

-- ---- each on the left is met by some on the right

pub record Met {A B : Type 0} (r : A → B → Type 0) (l : List A) (m : List B) : Type 0 where
  pub met : All (λ a. Some (r a) m) l

module _ {A B : Type 0} {r : A → B → Type 0} where
  pub met_append : {l l' : List A} {m m' : List B} → Met r l m → Met r l' m' → Met r (l ++ l') (m ++ m')
  met_append {m} {m'} s t = record {
    met = all_append (all_weak (λ a p. some_left m' p) s.met) (all_weak (λ a p. some_right m p) t.met);
  }

  pub met_none : {m : List B} → Met r [] m
  met_none = record { met = none }

  pub met_one : {a : A} {b : B} → r a b → Met r (a ∷ []) (b ∷ [])
  met_one p = record { met = also (here p) none }

  pub met_given : (b c : Bool) (x : A) (y : B) → (b ≡ true → c ≡ true) → (b ≡ true → r x y) → Met r (given b x) (given c y)
  met_given b c x y f g = record { met = all_given (λ a. Some (r a) (given c y)) b x (λ e. some_given (r x) c y (f e) (g e)) }

module _ {A B C D : Type 0} (r : A → B → Type 0) {q : C → D → Type 0} where
  met_at : {a : A} (f : A → List C) (g : B → List D) {m : List B} → ((b : B) → r a b → Met q (f a) (g b)) → Some (r a) m → Met q (f a) (in_each g m)
  met_at f g h (here {x = b} {l = m} p) = record { met = all_weak (λ c s. some_left (in_each g m) s) (h b p).met }
  met_at f g h (there {x = b} s) = record { met = all_weak (λ c s. some_right (g b) s) (met_at f g h s).met }

module _ {A B C D : Type 0} {r : A → B → Type 0} {q : C → D → Type 0} where
  pub met_in_each : (f : A → List C) (g : B → List D) {l : List A} {m : List B} → ((a : A) (b : B) → r a b → Met q (f a) (g b)) → Met r l m → Met q (in_each f l) (in_each g m)
  met_in_each f g h s = record { met = all_in_each f (all_weak (λ a p. (met_at r f g (h a) p).met) s.met) }

  pub met_map : (f : A → C) (g : B → D) {l : List A} {m : List B} → ((a : A) (b : B) → r a b → q (f a) (g b)) → Met r l m → Met q (map f l) (map g m)
  met_map f g {m} h s = record {
    met = all_map (λ c. Some (q c) (map g m)) f (all_weak (λ a p. some_map (q (f a)) g (some_weak (h a) p)) s.met);
  }

module _ {A B : Type 0} {r : A → B → Type 0} where
  cond_same : (b : Bool) {l l' : List A} {m m' : List B} → (b ≡ true → Met r l m) → (b ≡ false → Met r l' m') → Met r (cond b l l') (cond b m m')
  cond_same true f g = f refl
  cond_same false f g = g refl

  pub met_cond : {b c : Bool} {l l' : List A} {m m' : List B} → b ≡ c → (b ≡ true → Met r l m) → (b ≡ false → Met r l' m') → Met r (cond b l l') (cond c m m')
  met_cond {b} q f g = rw (← q) (cond_same b f g)

  -- a list that is there under a test
  pub met_when : (b c : Bool) {l : List A} {m : List B} → (b ≡ true → (c ≡ true) × Met r l m) → Met r (cond b l []) (cond c m [])
  met_when true c f = rw (f refl).0 (f refl).1
  met_when false c f = met_none

  pub when_met : (b : Bool) {l : List A} {m : List B} → (b ≡ true → Met r l m) → Met r (cond b l []) m
  when_met true f = f refl
  when_met false f = met_none

  pub met_in : {c : Bool} {l : List A} {m : List B} → c ≡ true → Met r l m → Met r l (cond c m [])
  met_in q s = rw q s

  pub met_both : {l l' : List A} {m : List B} → Met r l m → Met r l' m → Met r (l ++ l') m
  met_both s t = record { met = all_append s.met t.met }

  pub met_left : {l : List A} {m : List B} (m' : List B) → Met r l m → Met r l (m ++ m')
  met_left m' s = record { met = all_weak (λ a p. some_left m' p) s.met }

  pub met_right : {l : List A} (m : List B) {m' : List B} → Met r l m' → Met r l (m ++ m')
  met_right m s = record { met = all_weak (λ a p. some_right m p) s.met }

  pub met_each : (n k : ℕ) (f : ℕ → List A) (g : ℕ → List B) (e : ℕ → ℕ) → ((v : ℕ) → v < n → e v < k) → ((v : ℕ) → v < n → Met r (f v) (g (e v))) → Met r (each n f) (each k g)
  met_each n k f g e l h = record {
    met = all_each n f (λ v j. all_weak (λ a p. some_each k g (e v) (l v j) p) (h v j).met);
  }

  -- the one on the left has its match on the right
  pub met_some : {P : A → Type 0} {Q : B → Type 0} {l : List A} {m : List B} → Met r l m → ((a : A) (b : B) → P a → r a b → Q b) → Some P l → Some Q m
  met_some s f t = all_some (λ a q p. some_weak (λ b x. f a b p x) q) s.met t

module _ {A : Type 0} {P Q S : A → Type 0} where
  pub all_some_keep : {l : List A} → ((a : A) → P a → Q a → S a) → All P l → Some Q l → Some S l
  all_some_keep f none t = elim t [ ]
  all_some_keep f (also {x = x} p s) (here q) = here (f x p q)
  all_some_keep f (also p s) (there t) = there (all_some_keep f s t)
