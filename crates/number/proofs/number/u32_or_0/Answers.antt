-- `number::number::u32_or_0` meets its contract. Where three bytes or fewer are left, the fourth counts as 0; where none is left, all do.
use Rattle.std.proofs.Common.{◌+◌, arith}
use Rattle.format.proofs.Numbers.{number_at_add, number_at_past}
use Rattle.number.proofs.number.u32_or_0.Goals as goal

pub returns-then-at-bytes-2 : goal.returns-then-at-bytes-2
returns-then-at-bytes-2 c =
    let a = c.args in omega (arith, number_at_add 3 1 a.bytes.now a.at, number_at_past 1 a.bytes.now (a.at + 3) (omega arith))

pub returns : goal.returns
returns c = let a = c.args in omega (arith, number_at_past 4 a.bytes.now a.at (omega arith))
