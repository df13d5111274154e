-- `digits::read::read_number` meets its contract. The number of all digits is that of those left behind the number so far.
use mathlib.Core.Path.{◌≡◌}
use Prim.Native.Nat.{◌<◌, ◌^◌}
use lib.ListN.{drop}
use Rattle.exchange.specs.Digits.{read_digits}
use Rattle.digits.proofs.read.read_number.Given as goal

abbrev pub invariant-loop-b : goal.invariant-loop-b
invariant-loop-b l = (l.value < 2 ^ 64) × (read_digits 10 0 l.digits ≡ read_digits 10 l.value (drop l.b-index l.digits))
