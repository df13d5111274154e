-- `number::number::rot64` meets its contract. The law of rotation, at 64 bits.
use Rattle.std.proofs.Common.{arith}
use Rattle.format.proofs.Rotations.{shifts_rotate}
use Rattle.number.proofs.number.rot64.Goals as goal

pub returns : goal.returns
returns c = shifts_rotate 64 c.args.x c.args.k (omega arith) c.ranges.x.fits
