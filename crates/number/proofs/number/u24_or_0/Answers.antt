-- `number::number::u24_or_0` meets its contract. Three bytes are a sum of three, each in its place.
use Rattle.format.proofs.Numbers.{three_bytes}
use Rattle.std.proofs.Common.{arith}
use Rattle.number.proofs.number.u24_or_0.Goals as goal

pub returns : goal.returns
returns c = let a = c.args in omega (arith, three_bytes a.bytes.now a.at)
