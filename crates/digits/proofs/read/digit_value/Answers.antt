-- `digits::read::digit_value` meets its contract.
use mathlib.Core.Path.{sym}
use native.Mathlib.Omega.{arith}
use Rattle.digits.proofs.ReadLaws.{value_below, value_decimal, value_between, value_letter, value_above}
use Rattle.digits.proofs.read.digit_value.Goals as goal

pub returns-in-48-to-57 : goal.returns-in-48-to-57
returns-in-48-to-57 c = (sym (value_decimal c.args.b (omega arith) (omega arith)), omega arith)

pub returns-in-97-to-102 : goal.returns-in-97-to-102
returns-in-97-to-102 c = (sym (value_letter c.args.b (omega arith) (omega arith)), omega arith)

pub returns-in_default : goal.returns-in_default
returns-in_default c = (sym (value_below c.args.b (omega arith)), omega arith)

pub returns-in_default-2 : goal.returns-in_default-2
returns-in_default-2 c = (sym (value_between c.args.b (omega arith) (omega arith)), omega arith)

pub returns-in_default-3 : goal.returns-in_default-3
returns-in_default-3 c = (sym (value_above c.args.b (omega arith)), omega arith)
