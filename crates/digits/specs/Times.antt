-- A time as the code reads it: the number that its digits are, where it is not at fault.
use Rattle.std.specs.Prelude.{cond, List, ℕ, Option, Some, None}
use Rattle.exchange.specs.Digits.{read_digits}
use Rattle.exchange.specs.Import.{time_fault}

unfoldable pub time_read : List ℕ → Option ℕ
time_read v = cond (time_fault v) None (Some (read_digits 10 0 v))
