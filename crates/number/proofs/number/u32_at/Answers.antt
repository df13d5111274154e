-- `number::number::u32_at` meets its contract. Four bytes are a sum of four, each in its place.
use Rattle.format.proofs.Numbers.{four_bytes}
use Rattle.std.proofs.Common.{arith}
use Rattle.number.proofs.number.u32_at.Goals as goal

pub returns : goal.returns
returns c = let a = c.args in omega (arith, four_bytes a.bytes.now a.at)
