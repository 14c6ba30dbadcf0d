-- Where the part stands that the second call hands back.
use Prim.Native.Nat.{ℕ, ◌-◌}
use mathlib.Core.Path.{ap, ◌∙◌}
use Rattle.std.specs.Prelude.{unwrap_or}
use Rattle.std.specs.declared.ops.Range.{Range}
use Rattle.checker.proofs.Handing.{as_handed}
use Rattle.checker.proofs.face.place.Goals as goal

pub returns : goal.returns
returns c =
    let e = c.unwrap_or-part.ensures ∙ ap (λ r. unwrap_or r (record { start = 0; end = 0 })) c.place.ensures.is in
    record { exact = rw c.len.ensures.value (ap (λ (p : Range ℕ). (p.start, p.end - p.start)) e ∙ as_handed c.args.file.now c.args.number) }
