-- `digits::write::digit_count` meets its contract. The digits counted and those of what is left are together as before.
use native.Mathlib.Omega.{arith}
use Prim.Native.Nat.{suc, ◌+◌, ◌-◌}
use mathlib.Core.Path.{◌≡◌}
use Rattle.exchange.proofs.DigitLaws.{count_one_lem, count_more}
use Rattle.digits.proofs.CountLaws.{tenth_room, tenth_below}
use Rattle.digits.proofs.write.digit_count.Goals as goal

pub loop-left-init : goal.loop-left-init
loop-left-init c = (omega arith, omega (arith, c.ranges.n), omega arith)

pub loop-left-preserved : goal.loop-left-preserved
loop-left-preserved c =
    let l = c.loop-left in
    let p = l.invariant in
    let t = c.loop-left-test.true in
    let r = tenth_room (20 - l.k) l.left t p.1 in
    let e : suc (20 - (l.k + 1)) ≡ 20 - l.k = omega (arith, r) in (
      omega (arith, r),
      rw e (tenth_below (20 - l.k) l.left p.1),
      rw e (omega (arith, p.2, count_more (20 - l.k) l.left t)),
    )

pub returns : goal.returns
returns c =
    let l = c.loop-left in
    let p = l.invariant in
    (omega (arith, p.2, count_one_lem (20 - l.k) l.left c.loop-left-test.false), p.0)

pub overflow_add-k : goal.overflow_add-k
overflow_add-k c = omega (arith, c.loop-left.invariant.0)
