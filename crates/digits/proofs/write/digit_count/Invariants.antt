-- `digits::write::digit_count` meets its contract. The digits counted and those of what is left are together as before.
use Prim.Native.Nat.{suc, ◌+◌, ◌-◌, ◌^◌, ◌≤◌, ◌<◌}
use mathlib.Core.Path.{◌≡◌}
use Rattle.exchange.specs.Digits.{digit_count}
use Rattle.digits.proofs.write.digit_count.Given as goal

abbrev pub invariant-loop-left : goal.invariant-loop-left
invariant-loop-left l = (l.k ≤ 20) × (l.left < 10 ^ suc (20 - l.k)) × (digit_count 20 l.n + 1 ≡ l.k + digit_count (suc (20 - l.k)) l.left)

abbrev pub decreases-loop-left : goal.decreases-loop-left
decreases-loop-left l = l.left
