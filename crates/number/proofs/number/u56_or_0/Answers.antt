-- `number::number::u56_or_0` meets its contract. Seven bytes are four and then three; where fewer than four are left, the last four count as 0.
use Rattle.std.proofs.Common.{◌+◌, arith}
use Rattle.format.proofs.Numbers.{number_at_add, number_at_past}
use Rattle.number.proofs.number.u56_or_0.Goals as goal

pub returns-then-at-bytes : goal.returns-then-at-bytes
returns-then-at-bytes c = let a = c.args in omega (arith, number_at_add 4 3 a.bytes.now a.at)

pub returns : goal.returns
returns c =
    let a = c.args in omega (arith, number_at_add 3 4 a.bytes.now a.at, number_at_past 4 a.bytes.now (a.at + 3) (omega arith))
