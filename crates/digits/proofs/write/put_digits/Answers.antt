-- `digits::write::put_digits` meets its contract. The digits written and those still to write are together as before.
use native.Mathlib.Nat.{mod-lt}
use native.Mathlib.Omega.{arith}
use mathlib.Core.Path.{◌≡◌, refl, sym, ◌∙◌}
use lib.ListN.{length-set}
use Rattle.digits.proofs.PutLaws.{digits_turn, digits_end}
use Rattle.digits.proofs.write.put_digits.Goals as goal

pub loop-i-init : goal.loop-i-init
loop-i-init c = (refl, refl)

pub digit-requires : goal.digit-requires
digit-requires c =
    omega (arith, c.requires.1, c.requires.2, mod-lt c.loop-i.left {m = c.args.base} (omega (arith, c.requires.1)))

pub loop-i-preserved : goal.loop-i-preserved
loop-i-preserved c =
    let a = c.args in
    let l = c.loop-i in (
      simp length-set l.invariant.0,
      rw c.digit.ensures (digits_turn a.at a.base l.i l.left l.text (omega arith) (omega arith) ∙ l.invariant.1),
    )

pub returns : goal.returns
returns c =
    let a = c.args in
    let l = c.loop-i in
    let e : l.i ≡ 0 = omega arith in
    sym (digits_end a.at a.base l.left l.text) ∙ rw e at l.invariant.1
