-- Of an accepted file the first bytes of the answer buffer are printed, as many as it has points.
use Rattle.std.proofs.Common.{◌≡◌, ℕ, zero, suc, ◌<◌, ◌≤◌, min, List, ◌++◌, codes, take, drop, length, length-take-le, refl, sym, ap, ◌∙◌, arith}
use Rattle.std.specs.Prelude.{slice_index}
use Rattle.std.proofs.lemmas.List.{get_or-take}
use Rattle.model.specs.File.{Reading, fine, refused, cut_short, wrong_mark, wrong_version, beyond_limit, wrong_point, wrong_shape, reading, points}
use Rattle.model.specs.Claim.{claim}
use Rattle.model.specs.Verdict.{Verdict, accepted, unreadable, no_entry, short_buffer, uncovered, Answer, answer, answer_of, answer_byte, judged_if, verdict, written_on, buffer_after}
use Rattle.model.proofs.Tables.{table_at}
use Rattle.model.proofs.Accepted.{points_few, body_fine}
use Rattle.report.specs.Text.{verdict_line, spaced, bytes_if, text_of}

few_if : (r : Reading) (f : List ℕ) (a b : ℕ) → reading f ≡ r → judged_if r f 64 ≡ accepted a b → points f ≤ 64
few_if fine f a b q e = points_few _ f (body_fine f q)
few_if (refused fault place) f a b q e = grind arith

pub accepted_few : (f : List ℕ) (a b : ℕ) → verdict f 64 ≡ accepted a b → points f ≤ 64
unfolding verdict
accepted_few f a b e = few_if (reading f) f a b refl e

-- the same numbers, the same text
pub spaced_same : (g h : ℕ → ℕ) (n : ℕ) → ((p : ℕ) → p < n → g p ≡ h p) → spaced g n ≡ spaced h n
unfolding spaced
spaced_same g h zero same = refl
spaced_same g h (suc n) same = rw (same n (omega arith), spaced_same g h n (λ p l. same p (omega arith)))

-- the first bytes of a buffer by themselves
pub of_front : (bytes : List ℕ) (n : ℕ) → n ≤ length bytes → spaced (slice_index (take n bytes)) (length (take n bytes)) ≡ spaced (slice_index bytes) n
of_front bytes n h =
    rw (length-take-le n bytes h) (spaced_same (slice_index (take n bytes)) (slice_index bytes) n (λ p l. get_or-take n bytes p 0 l))

pub bytes_said :
    (v : Verdict) (f out bytes : List ℕ) (n : ℕ)
    → v ≡ verdict f 64 → (answer_of v).number ≡ 0 → bytes ≡ written_on v f out → n ≡ min (points f) 64
    → spaced (slice_index bytes) n ++ codes "\n" ≡ bytes_if v f
bytes_said (accepted a b) f out bytes n e zero_is after many =
    let few = accepted_few f a b (sym e) in
    let all : n ≡ points f = omega arith in
    let same : (p : ℕ) → p < points f → slice_index bytes p ≡ answer_byte (claim f) p =
    λ p l. rw after (table_at (answer_byte (claim f)) (points f) (drop (points f) out) p l) in
    rw (all, spaced_same (slice_index bytes) (answer_byte (claim f)) (points f) same)
bytes_said (unreadable cut_short place) f out bytes n e zero_is after many = grind arith
bytes_said (unreadable wrong_mark place) f out bytes n e zero_is after many = grind arith
bytes_said (unreadable wrong_version place) f out bytes n e zero_is after many = grind arith
bytes_said (unreadable beyond_limit place) f out bytes n e zero_is after many = grind arith
bytes_said (unreadable wrong_point place) f out bytes n e zero_is after many = grind arith
bytes_said (unreadable wrong_shape place) f out bytes n e zero_is after many = grind arith
bytes_said no_entry f out bytes n e zero_is after many = grind arith
bytes_said (short_buffer m) f out bytes n e zero_is after many = grind arith
bytes_said (uncovered i s) f out bytes n e zero_is after many = grind arith

-- the line and the bytes of a file that is answered with the number 0
pub text_said :
    (f out bytes : List ℕ) (number a b n : ℕ)
    → answer number a b ≡ answer_of (verdict f 64) → number ≡ 0
    → length out ≡ 64 → bytes ≡ buffer_after f out → n ≡ min (points f) 64
    → verdict_line number a b ++ (spaced (slice_index bytes) n ++ codes "\n") ≡ text_of (verdict f 64) f
unfolding buffer_after
text_said f out bytes number a b n row zero_is room after many =
    let r = ap (λ (r : Answer). r.number) row in
    let e : verdict_line number a b
    ≡ verdict_line (answer_of (verdict f 64)).number (answer_of (verdict f 64)).a (answer_of (verdict f 64)).b =
    ap (λ (r : Answer). verdict_line r.number r.a r.b) row in
    let said : spaced (slice_index bytes) n ++ codes "\n" ≡ bytes_if (verdict f 64) f =
    bytes_said (verdict f 64) f out bytes n refl (sym r ∙ zero_is) (after ∙ ap (λ (k : ℕ). written_on (verdict f k) f out) room) many in
    rw (e, said)
