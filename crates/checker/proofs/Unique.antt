-- Each public function has one possible answer on each input: two answers that meet its contract are the same, and so are
-- the buffers that they leave. (What `claim` hands on is unique by its own Unique.)
use Prim.Native.Nat.{ℕ}
use mathlib.Core.List.{List}
use mathlib.Core.Path.{◌≡◌, refl, sym, ap, ◌∙◌}
use lib.ListN.{length}
use Rattle.std.specs.Prelude.{Result, Ok, Err}
use Rattle.model.specs.File.{handed_back}
use Rattle.model.specs.Verdict as M
use Rattle.model.specs.Verdict.{Answer, answer, answer_of, verdict, buffer_after}
use Rattle.claim.proofs.Unique.{case_of, case_back}
use Rattle.checker.specs.declared.Accepted.{Accepted}
use Rattle.checker.specs.declared.Refused.{Refused}
use Rattle.checker.specs.declared.Refused.TheVariants.{Unreadable, NoEntry, ShortBuffer, Uncovered}
use Rattle.checker.specs.Meaning.{verdict_of, handed_place}

-- ---- the case that means a verdict

meant : M.Verdict → Result Accepted Refused
meant (M.accepted a b) = Ok record { shapes = a; open_points = b }
meant (M.unreadable fault place) = Err (Unreadable record { fault = case_of fault; place = place })
meant M.no_entry = Err NoEntry
meant (M.short_buffer n) = Err (ShortBuffer n)
meant (M.uncovered i s) = Err (Uncovered i s)

meant_back : (v : Result Accepted Refused) → meant (verdict_of v) ≡ v
unfolding meant
meant_back (Ok a) = refl
meant_back (Err (Unreadable r)) = ap (λ w. Err (Unreadable record { fault = w; place = r.place })) (case_back r.fault)
meant_back (Err NoEntry) = refl
meant_back (Err (ShortBuffer n)) = refl
meant_back (Err (Uncovered i s)) = refl

pub one_verdict : (r s : Result Accepted Refused) → verdict_of r ≡ verdict_of s → r ≡ s
one_verdict r s e = sym (meant_back r) ∙ ap meant e ∙ meant_back s

-- ---- check

-- the verdict r and the buffer x after it, as `exact` has them
abbrev pub Exact : List ℕ → List ℕ → Result Accepted Refused → List ℕ → Type 0
Exact f out r x = (verdict_of r ≡ verdict f (length out)) × (x ≡ buffer_after f out)

pub check_unique : (f out : List ℕ) (r s : Result Accepted Refused) (x y : List ℕ) → Exact f out r x → Exact f out s y → (r ≡ s) × (x ≡ y)
check_unique f out r s x y p q = (one_verdict r s (p.0 ∙ sym q.0), p.1 ∙ sym q.1)

-- ---- record

pub record_unique : (f : List ℕ) (i : ℕ) (x y : List ℕ) → x ≡ handed_back f i → y ≡ handed_back f i → x ≡ y
record_unique f i x y p q = p ∙ sym (q)

-- ---- the face: number, a, b and the buffer; start and length

pub answer_unique : (R : Answer) (n a b n' a' b' : ℕ) → answer n a b ≡ R → answer n' a' b' ≡ R → (n ≡ n') × (a ≡ a') × (b ≡ b')
answer_unique R n a b n' a' b' p q =
    let e = p ∙ sym q in
    (ap (λ r. r.number) e, ap (λ r. r.a) e, ap (λ r. r.b) e)

pub place_unique : (f : List ℕ) (i s l s' l' : ℕ) → (s, l) ≡ handed_place f i → (s', l') ≡ handed_place f i → (s ≡ s') × (l ≡ l')
place_unique f i s l s' l' p q = let e : ◌≡◌ {A = ℕ × ℕ} (s, l) (s', l') = p ∙ sym q in (ap (λ z. z.0) e, ap (λ z. z.1) e)
