-- `number::number::rot32` meets its contract. The law of rotation, at 32 bits.
use Rattle.std.proofs.Common.{arith}
use Rattle.format.proofs.Rotations.{shifts_rotate}
use Rattle.number.proofs.number.rot32.Goals as goal

pub returns : goal.returns
returns c = shifts_rotate 32 c.args.x c.args.k (omega arith) c.ranges.x.fits
