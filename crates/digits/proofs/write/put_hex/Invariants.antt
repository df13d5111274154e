-- `digits::write::put_hex` meets its contract. The bytes written and those still to write are together as before.
use Prim.Native.Nat.{◌+◌, ◌-◌, ◌*◌}
use mathlib.Core.Path.{◌≡◌}
use lib.ListN.{length}
use Rattle.format.specs.Store.{bytes_of}
use Rattle.exchange.specs.Digits.{hex_of}
use Rattle.exchange.specs.Export.{laid}
use Rattle.digits.proofs.write.put_hex.Given as goal

abbrev pub invariant-loop-i : goal.invariant-loop-i
invariant-loop-i l = (length l.text ≡ length l.initial.text) × (laid (l.at + 2 * l.i) (hex_of (bytes_of (8 - l.i) l.left)) l.text ≡ laid l.at (hex_of (bytes_of 8 l.word)) l.initial.text)
