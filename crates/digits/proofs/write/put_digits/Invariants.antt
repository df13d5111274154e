-- `digits::write::put_digits` meets its contract. The digits written and those still to write are together as before.
use mathlib.Core.Path.{◌≡◌}
use lib.ListN.{length}
use Rattle.exchange.specs.Digits.{digits_of}
use Rattle.exchange.specs.Export.{laid}
use Rattle.digits.proofs.write.put_digits.Given as goal

abbrev pub invariant-loop-i : goal.invariant-loop-i
invariant-loop-i l = (length l.text ≡ length l.initial.text) × (laid l.at (digits_of l.base l.i l.left) l.text ≡ laid l.at (digits_of l.base l.k l.n) l.initial.text)
