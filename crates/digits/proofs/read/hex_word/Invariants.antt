-- `digits::read::hex_word` meets its contract. The word so far is the number of the bytes taken, from the last on.
use mathlib.Core.Path.{◌≡◌}
use Prim.Native.Nat.{◌+◌, ◌-◌}
use Rattle.format.specs.Number.{number_at}
use Rattle.exchange.specs.Digits.{hex_bytes}
use Rattle.digits.proofs.read.hex_word.Given as goal

abbrev pub invariant-loop-i : goal.invariant-loop-i
invariant-loop-i l = l.word ≡ number_at (8 - l.i) (hex_bytes l.digits) (l.at + l.i)
