-- `shape::bits::holds` meets its contract. x is in the mask.
use Rattle.shape.proofs.MaskBits.{bit_is}
use Rattle.shape.proofs.bits.holds.Goals as goal

pub returns : goal.returns
returns c = bit_is c.args.x c.args.m
