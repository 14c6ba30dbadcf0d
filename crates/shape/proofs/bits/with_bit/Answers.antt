-- `shape::bits::with_bit` meets its contract.
use native.Mathlib.Omega.{arith}
use Rattle.shape.proofs.MaskBits.{put_or, put_and}
use Rattle.shape.proofs.bits.with_bit.Goals as goal

pub returns-then-b : goal.returns-then-b
returns-then-b c = rw (c.alone.ensures, c.if-b.true) (put_or c.args.x c.args.m)

pub returns-else-b : goal.returns-else-b
returns-else-b c = rw (c.alone-else-b.ensures, c.if-b.false) (put_and 16 c.args.x c.args.m c.requires (omega arith))
