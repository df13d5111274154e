-- `digits::write::put_hex` meets its contract. The bytes written and those still to write are together as before.
use native.Mathlib.Omega.{arith}
use Prim.Native.Nat.{◌+◌, ◌-◌, ◌*◌}
use mathlib.Core.Path.{◌≡◌, refl, sym, ◌∙◌}
use Rattle.digits.proofs.PutLaws.{hex_turn, hex_end}
use Rattle.digits.proofs.write.put_hex.Goals as goal

pub loop-i-init : goal.loop-i-init
loop-i-init c = let a = c.args in let e : a.at + 2 * 0 ≡ a.at = omega arith in (refl, rw e refl)

pub loop-i-preserved : goal.loop-i-preserved
loop-i-preserved c =
    let l = c.loop-i in (
      omega arith,
      rw c.put_digits.ensures (hex_turn c.args.at l.i l.left l.text (omega arith) (omega arith) ∙ l.invariant.1),
    )

pub returns : goal.returns
returns c =
    let a = c.args in
    let l = c.loop-i in
    let e : 8 - l.i ≡ 0 = omega arith in
    sym (hex_end (a.at + 2 * l.i) l.left l.text) ∙ rw e at l.invariant.1
