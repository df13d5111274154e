-- `number::number::sub32` meets its contract. The difference that wraps is `minus` at 32 bits.
use Rattle.format.specs.Number.{minus}
use Rattle.std.proofs.Common.{rules}
use Rattle.number.proofs.number.sub32.Goals as goal

pub returns : goal.returns
unfolding minus
returns c = search rules
