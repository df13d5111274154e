-- `digits::read::read_number` meets its contract. The number of all digits is that of those left behind the number so far.
use mathlib.Core.Path.{◌≡◌, refl, sym, ◌∙◌}
use native.Mathlib.Omega.{arith}
use Rattle.exchange.specs.Digits.{read_digits}
use Rattle.digits.proofs.ReadLaws.{read_turn, read_end, read_large, time_large, time_right}
use Rattle.digits.proofs.read.read_number.Goals as goal

pub loop-b-init : goal.loop-b-init
loop-b-init c = (omega arith, refl)

pub returns-then-d-value : goal.returns-then-d-value
returns-then-d-value c =
    let l = c.loop-b in
    let digits = c.args.digits.now in
    sym (time_large digits (rw l.invariant.1 (read_large l.value digits l.b-index (omega arith) (omega arith))))

pub loop-b-preserved : goal.loop-b-preserved
loop-b-preserved c =
    let l = c.loop-b in
    let digits = c.args.digits.now in
    (omega arith, l.invariant.1 ∙ read_turn 10 l.value digits l.b-index (omega arith) ∙ rw (← c.digit_value-d.ensures.0))

pub returns : goal.returns
returns c =
    let l = c.loop-b in
    let digits = c.args.digits.now in
    let all : read_digits 10 0 digits ≡ l.value = l.invariant.1 ∙ read_end 10 l.value digits l.b-index (omega arith) in
    rw (← all) (sym (time_right digits c.requires.0 c.requires.1 c.requires.2 (omega arith)))
