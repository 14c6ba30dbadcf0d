-- One more read puts its bytes behind those that stand there.
use Rattle.std.proofs.Common.{◌≡◌, ℕ, ◌+◌, ◌-◌, ◌≤◌, List, ◌++◌, length, take, sym, ap, ap₂, ◌∙◌, subst, le_refl, drop_at, length-take-le}
use Rattle.std.proofs.lemmas.Slice.{take-put_mid_below}
use Rattle.std.specs.Io.KnownBytes.{Consumes}
use Rattle.std.proofs.KnownBytes.{Consumes-trans}
use borrow.Rule.Slice.PartMut.{put_mid, post_of}
use borrow.Author.Rules.{rules}
use lib.Seq.{take-add, take-append-le}
use Rattle.input.proofs.fill.Goals as goal

joined : (a k n : ℕ) (xs ys : List ℕ) → a ≤ length xs → n ≤ length ys → take (a + n) (put_mid a k xs ys) ≡ take a xs ++ take n ys
joined a k n xs ys inside fits =
    take-add a n (put_mid a k xs ys)
    ∙ ap₂ (λ l m. l ++ m) (take-put_mid_below a k xs ys a (le_refl a) inside)
    (ap (take n) (drop_at (take a xs) (ys ++ post_of a k xs) a (length-take-le a xs inside)) ∙ take-append-le n ys (post_of a k xs) fits)

pub loop-done-preserved : goal.loop-done-preserved
loop-done-preserved g c =
    let w = c.loop-done in
    let e = joined w.done (length w.buffer - w.done) c.in_ok-more.more w.buffer c.read.new.buf w.invariant.inside c.in_ok-more.ensures.bound.0 in
    record {
      inside = search rules;
      read = subst (Consumes _ _) (sym e) (Consumes-trans _ _ _ _ _ w.invariant.read c.in_ok-more.ensures.bytes.0);
    }
