-- One answer for each file: the contract of scan leaves no choice. (Those of place, record and part are equations already.)
use Prim.Native.Nat.{ℕ, ◌≤◌}
use mathlib.Core.List.{List}
use mathlib.Core.Path.{◌≡◌, refl, sym, ap, ◌∙◌}
use Rattle.std.proofs.Common.{subst}
use Rattle.std.proofs.Math.Bridge.{le_prop}
use Rattle.std.specs.Prelude.{Result, Ok, Err}
use Rattle.model.specs.Format.{Format}
use Rattle.model.specs.File as model
use Rattle.model.specs.File.{fine, refused, cut_short, wrong_mark, wrong_version, beyond_limit, wrong_point, wrong_shape}
use Rattle.model.proofs.Fields.{never}
use Rattle.claim.specs.declared.fields.Fault.{Fault}
use Rattle.claim.specs.declared.fields.Fault.TheVariants.{CutShort, WrongMark, WrongVersion, BeyondLimit, WrongPoint, WrongShape}
use Rattle.claim.specs.declared.fields.Refusal.{Refusal}
use Rattle.claim.specs.declared.parts.Claim.{Claim}
use Rattle.claim.specs.Answers.{fault_of, reading_of}
use Rattle.claim.specs.Reads.{Everything, Reads}

-- the case that means a fault
unfoldable pub case_of : model.Fault → Fault
case_of cut_short = CutShort
case_of wrong_mark = WrongMark
case_of wrong_version = WrongVersion
case_of beyond_limit = BeyondLimit
case_of wrong_point = WrongPoint
case_of wrong_shape = WrongShape

pub case_back : (w : Fault) → case_of (fault_of w) ≡ w
unfolding case_of
case_back CutShort = refl
case_back WrongMark = refl
case_back WrongVersion = refl
case_back BeyondLimit = refl
case_back WrongPoint = refl
case_back WrongShape = refl

-- ---- the refusal that means a reading, and that any other way

refusal : Refusal → model.Reading → Refusal
refusal r fine = r
refusal r (refused fault place) = record { fault = case_of fault; place = place }

pub one_refusal : (r s : Refusal) → refused (fault_of r.fault) r.place ≡ refused (fault_of s.fault) s.place → r ≡ s
unfolding refusal
one_refusal r s e = sym (back r) ∙ ap (refusal r) e ∙ back s
  where
    back : (q : Refusal) → refusal r (refused (fault_of q.fault) q.place) ≡ q
    back q = ap (λ w. record { fault = w; place = q.place }) (case_back q.fault)

pub one_reading : (r s : Result (Unit {0}) Refusal) → reading_of r ≡ reading_of s → r ≡ s
one_reading (Ok _) (Ok _) e = refl
one_reading (Ok _) (Err s) e = never (sym e)
one_reading (Err r) (Ok _) e = never e
one_reading (Err r) (Err s) e = ap (λ r. Err r) (one_refusal r s e)

-- ---- the claim

made : (v n m : ℕ) (l : List ℕ) → m ≤ 512 → Claim
made v n m l h = record { vars = v; points = n; shapes = m; starts = l; few = h }

one_everything : (F : Format) (f : List ℕ) (c d : Claim) → Everything F f c → Everything F f d → c ≡ d
unfolding made
one_everything F f c d t u =
    rw (t.vars ∙ sym u.vars, t.points ∙ sym u.points, t.starts ∙ sym u.starts)
    (subst (λ k. (h : k ≤ 512) → made d.vars d.points c.shapes d.starts c.few ≡ made d.vars d.points k d.starts h) (t.shapes ∙ sym u.shapes) (λ h. ap (made d.vars d.points c.shapes d.starts) (le_prop c.few h)) d.few)

pub one_claim : (F : Format) (f : List ℕ) (R : model.Reading) (r s : Result Claim Refusal) → Reads F f R r → Reads F f R s → r ≡ s
one_claim F f R (Ok c) (Ok d) t u = ap (λ c. Ok c) (one_everything F f c d t.rest u.rest)
one_claim F f R (Ok c) (Err s) t u = never (u.reading ∙ sym t.reading)
one_claim F f R (Err r) (Ok d) t u = never (t.reading ∙ sym u.reading)
one_claim F f R (Err r) (Err s) t u = ap (λ r. Err r) (one_refusal r s (t.reading ∙ sym u.reading))
