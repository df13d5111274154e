-- `digits::read::read_time` meets its contract.
use mathlib.Core.Path.{sym, ◌∙◌}
use native.Mathlib.Omega.{arith}
use mathlib.Core.Path.{◌≡◌}
use lib.ListN.{length}
use borrow.Author.Tests.{eqb-true}
use Rattle.digits.proofs.ReadLaws.{time_empty, time_long_lem, time_odd}
use Rattle.digits.proofs.read.read_time.Goals as goal
use Rattle.digits.proofs.read.read_time.Goals.{then-is_empty-via-then-is_empty, then-is_empty-via-else-is_empty+then-digits-gt-MOST_DIGITS, then-is_empty-via-else-is_empty+else-digits-gt-MOST_DIGITS+then-odd_digit}

pub returns-then-is_empty : goal.returns-then-is_empty
returns-then-is_empty c =
    let digits = c.args.digits.now in
    elim c.then-is_empty.branch [
      | then-is_empty-via-then-is_empty w ↦ let e : length digits ≡ 0 = eqb-true _ _ (sym c.is_empty.ensures ∙ w.if-is_empty.true) in sym (time_empty digits (omega arith))
      | then-is_empty-via-else-is_empty+then-digits-gt-MOST_DIGITS w ↦ sym (time_long_lem digits (omega arith))
      | then-is_empty-via-else-is_empty+else-digits-gt-MOST_DIGITS+then-odd_digit w ↦ sym (time_odd digits (sym w.odd_digit.ensures ∙ w.if-odd_digit.true))
    ]
