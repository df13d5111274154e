-- `number::number::u64_at` meets its contract. Eight bytes are four and then four.
use Rattle.format.proofs.Numbers.{number_at_add}
use Rattle.std.proofs.Common.{arith}
use Rattle.number.proofs.number.u64_at.Goals as goal

pub returns : goal.returns
returns c = let a = c.args in omega (arith, number_at_add 4 4 a.bytes.now a.at)
