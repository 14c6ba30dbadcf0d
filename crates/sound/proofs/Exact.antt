-- The exact shape of a store: which cells are shared, who holds a variable, and which shapes hold the store, each cell at its
-- own number.
use Prim.Native.Nat.{ℕ, ◌<◌}
use mathlib.Core.Bool.{Bool, true, false, cond}
use mathlib.Core.Logic.{◌≢◌}
use mathlib.Core.Path.{◌≡◌, refl, sym, ap, ◌∙◌}
use native.Mathlib.Omega.{arith}
use lib.Dec.{eqb, leb}
use borrow.Author.Tests.{eqb-true, eq-eqb, leb-true, leb-false, le-leb}
use Rattle.model.specs.Truth.{𝟘, 𝟙, may, must, sure}
use Rattle.model.specs.Finite.{Ref, null, at, is, count, bit}
use Rattle.model.specs.Store.{Store, Proper, shared_by}
use Rattle.model.specs.Shape.{Shape, holder, own_mask}
use Rattle.sound.specs.Embed.{Carried, Embeds}
use Rattle.sound.specs.Exact.{exact}
use Rattle.model.proofs.Bools.{by, clash, same_or_not}
use Rattle.model.proofs.Search.{two_count, count_apart, count_cong, Firstly, nowhere, first_at, firstly}
use Rattle.sound.proofs.Embed.{embeds_trans, Pin, Next, Aim, to_null, to_at, carried_same}
use Rattle.sound.proofs.OwnMask.{own_bit}

-- ---- references

pub is_at : (c : ℕ) → is (at c) c ≡ true
is_at c = eq-eqb c c refl

pub is_true : (r : Ref) (c : ℕ) → is r c ≡ true → r ≡ at c
is_true null c e = clash e refl
is_true (at d) c e = ap at (sym (eqb-true c d e))

-- ---- exact link values

pub exact_may : (b : Bool) → may (cond b 𝟙 𝟘) ≡ b
exact_may true = refl
exact_may false = refl

pub exact_must : (b : Bool) → must (cond b 𝟙 𝟘) ≡ b
exact_must true = refl
exact_must false = refl

pub exact_sure : (b : Bool) → sure (cond b 𝟙 𝟘) ≡ cond b 𝟙 𝟘
exact_sure true = refl
exact_sure false = refl

-- ---- sharing: "two different cells link to it"

module _ (size : ℕ) (f : ℕ → Ref) (d : ℕ) where
  abbrev links_to : ℕ → Bool
  links_to a = is (f a) d

  -- beside c another cell links to a shared one
  pub shared_other : (c : ℕ) → shared_by size f d ≡ true → (a : ℕ) × (a < size) × (a ≢ c) × (is (f a) d ≡ true)
  shared_other c t =
      let r = two_count size links_to (leb-true 2 (count size links_to) t) in
      let l = r.2 in
      let k = r.3 in
      same_or_not r.0 c (λ q. (r.1, r.3, (λ z. omega arith), r.5)) (λ q. (r.0, omega arith, q, r.4))

  -- two cells that link to an unshared one are the same
  pub shared_not : shared_by size f d ≡ false → (a b : ℕ) → a < size → b < size → is (f a) d ≡ true → is (f b) d ≡ true → a ≡ b
  shared_not t a b h j p q =
      same_or_not a b (λ y. y) (λ y.
      let g = count_apart size links_to a b y h j p q in
      let z = leb-false 2 (count size links_to) t in
      absurd (omega arith))

  pub shared_two : (a b : ℕ) → a ≢ b → a < size → b < size → is (f a) d ≡ true → is (f b) d ≡ true → shared_by size f d ≡ true
  shared_two a b y h j p q = le-leb 2 (count size links_to) (count_apart size links_to a b y h j p q)

module _ (size : ℕ) (f g : ℕ → Ref) (d : ℕ) where
  pub shared_same : ((b : ℕ) → b < size → is (f b) d ≡ is (g b) d) → shared_by size f d ≡ shared_by size g d
  shared_same h = ap (leb 2) (count_cong size (λ b. is (f b) d) (λ b. is (g b) d) h)

  pub shared_more : ((b : ℕ) → b < size → is (f b) d ≡ true → is (g b) d ≡ true) → shared_by size f d ≡ true → shared_by size g d ≡ true
  shared_more h t =
      let r = two_count size (λ b. is (f b) d) (leb-true 2 (count size (λ b. is (f b) d)) t) in
      let x = r.2 in
      let l : r.0 < size = (let y = r.3 in omega arith) in
      shared_two size g d r.0 r.1 (λ y. omega arith) l r.3 (h r.0 l r.4) (h r.1 r.3 r.5)

-- the links g differ from f only in whether they lead to d: then only d can be shared otherwise
module _ (size : ℕ) (f g : ℕ → Ref) (d : ℕ) (else : (a b : ℕ) → b < size → eqb a d ≡ false → is (g b) a ≡ is (f b) a) where
  pub shared_is : (v : Bool) → shared_by size g d ≡ v → (a : ℕ) → shared_by size g a ≡ cond (eqb a d) v (shared_by size f a)
  shared_is v t a =
      by (eqb a d)
      (λ y. rw y (ap (shared_by size g) (eqb-true a d y) ∙ t))
      (λ y. rw y (shared_same size g f a (λ b j. else a b j y)))

  pub shared_stays : (v : Bool) → shared_by size g d ≡ v → shared_by size f d ≡ v → (a : ℕ) → shared_by size g a ≡ shared_by size f a
  shared_stays v t t' a =
      shared_is v t a ∙ by (eqb a d) (λ y. rw y (sym (ap (shared_by size f) (eqb-true a d y) ∙ t'))) (λ y. rw y)

-- ---- a shape that holds the store, each cell at its own number

module _ (vars : ℕ) where
  pub record Near (σ : Store) (W : Shape) : Type 0 where
    pub map : ℕ → ℕ
    pub embeds : Embeds (exact vars σ) W map
    pub pins : (a : ℕ) → a < σ.size → Pin (exact vars σ) W map a a

  -- no individual is a summary, masks agree, and the links are carried
  pub near : (σ : Store) (W : Shape) → W.size ≡ σ.size → ((a : ℕ) → a < σ.size → own_mask vars σ.var a ≡ W.mask a) → ((a : ℕ) → W.summary a ≡ false) → Carried σ.size (λ a. a) (exact vars σ).n W.n → Near σ W
  near σ W z o p s = record {
    map = λ a. a;
    embeds = record {
      below = λ a h. rw z h;
      onto = λ i h. (i, rw z at h, refl);
      sole = λ a b h k q y. q;
      mask = o;
      summary = λ a h y. clash y refl;
      n = s;
    };
    pins = λ a h. record { low = h; to = refl; one = p a };
  }

  pub near_self : (σ : Store) → Near σ (exact vars σ)
  near_self σ = near σ (exact vars σ) refl (λ a h. refl) (λ a. refl) carried_same

  -- τ is in what a part of a step made of σ's exact shape; so it is in what the part made of W
  pub near_next : {σ τ : Store} {W R T : Shape} (w : Near σ W) → Near τ R → ((a : ℕ) → a < τ.size → a < σ.size) → Next (exact vars σ) W w.map R T → Near τ T
  near_next w m z p = record {
    map = λ a. p.map (m.map a);
    embeds = embeds_trans m.embeds p.embeds;
    pins = λ a h.
        let q = p.keep a a (w.pins a (z a h)) in
        record { low = h; to = ap p.map (m.pins a h).to ∙ q.to; one = q.one };
  }

  pub near_aim : {σ : Store} {W : Shape} (w : Near σ W) (r : Ref) → ((d : ℕ) → r ≡ at d → d < σ.size) → Aim (exact vars σ) W w.map r r
  near_aim w null h = to_null
  near_aim w (at d) h = to_at (w.pins d (h d refl))

  -- the holder of a variable is the cell that it is on
  pub holder_exact : (σ : Store) → Proper vars σ → (x : ℕ) → x < vars → holder (exact vars σ) x ≡ σ.var x
  holder_exact σ ok x l = go (holder (exact vars σ) x) (σ.var x) refl (firstly σ.size (λ a. bit x (own_mask vars σ.var a)))
    where
      go : (r v : Ref) → σ.var x ≡ v → Firstly σ.size (λ a. bit x (own_mask vars σ.var a)) r → r ≡ v
      go null null e f = refl
      go null (at c) e (nowhere f) = clash (own_bit c vars σ.var x l ∙ ap (λ r. is r c) e ∙ is_at c) (f c (ok.var x c l e))
      go (at a) null e (first_at h q) = clash refl (sym q ∙ own_bit a vars σ.var x l ∙ ap (λ r. is r a) e)
      go (at a) (at c) e (first_at h q) = ap at (eqb-true a c (sym (ap (λ r. is r a) e) ∙ sym (own_bit a vars σ.var x l) ∙ q))
