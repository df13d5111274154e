-- `number::number::add32` meets its contract. The sum that wraps is `plus` at 32 bits.
use Rattle.format.specs.Number.{plus}
use Rattle.std.proofs.Common.{rules}
use Rattle.number.proofs.number.add32.Goals as goal

pub returns : goal.returns
unfolding plus
returns c = search rules
