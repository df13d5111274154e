-- Digits as the code reads them: what a byte counts as, whether some byte is no digit, and a time digit by digit.
use mathlib.Core.Path.{◌≡◌, refl}
use mathlib.Core.Bool.{Bool, true, false}
use mathlib.Core.List.{List, [], ◌∷◌}
use Prim.Native.Nat.{ℕ, zero, suc, ◌+◌, ◌-◌, ◌*◌, ◌^◌, ◌≤◌, ◌<◌}
use native.Mathlib.Numerals.{add-one}
use native.Mathlib.Omega.{arith}
use lib.Dec.{ltb}
use lib.ListN.{length, drop, get_or, drop_of_length-le}
use lib.Seq.{drop-cons}
use borrow.Author.Tests.{lt-ltb, le-ltb, le-leb, lt-leb, leb-false}
use Rattle.std.proofs.Common.{Some, None}
use Rattle.format.specs.Tests.{any}
use Rattle.format.proofs.Tests.{neither, or_right}
use Rattle.exchange.specs.Digits.{digit_value, no_digit, read_digits}
use Rattle.exchange.specs.Import.{time_fault}
use Rattle.digits.specs.Times.{time_read}

module _ (b : ℕ) where
  -- a byte below the digits is none
  pub value_below : b < 48 → digit_value b ≡ 16
  unfolding digit_value
  value_below h = rw (lt-leb 48 b h, lt-leb 97 b (omega arith))

  -- 0 to 9
  pub value_decimal : 48 ≤ b → b ≤ 57 → digit_value b ≡ b - 48
  unfolding digit_value
  value_decimal l h = rw (le-leb 48 b l, le-leb b 57 h)

  -- a byte between the digits and the letters is none
  pub value_between : 57 < b → b < 97 → digit_value b ≡ 16
  unfolding digit_value
  value_between l h = rw (le-leb 48 b (omega arith), lt-leb b 57 l, lt-leb 97 b h)

  -- a to f
  pub value_letter : 97 ≤ b → b ≤ 102 → digit_value b ≡ b - 87
  unfolding digit_value
  value_letter l h = rw (le-leb 48 b (omega arith), lt-leb b 57 (omega arith), le-leb 97 b l, le-leb b 102 h)

  -- a byte above the letters is none
  pub value_above : 102 < b → digit_value b ≡ 16
  unfolding digit_value
  value_above l = rw (le-leb 48 b (omega arith), lt-leb b 57 (omega arith), le-leb 97 b (omega arith), lt-leb b 102 l)

-- some byte is no digit of a base
abbrev pub has_odd : ℕ → List ℕ → Bool
has_odd base digits = any (λ b. no_digit base b) digits

-- where no byte is odd each counts less than the base
pub digit_small : (base : ℕ) (digits : List ℕ) (i : ℕ) → has_odd base digits ≡ false → i < length digits → digit_value (get_or digits i 0) < base
unfolding any no_digit
digit_small base [] i e l = absurd (omega arith)
digit_small base (b ∷ digits) zero e l = leb-false base (digit_value b) (neither (no_digit base b) (has_odd base digits) e).0
digit_small base (b ∷ digits) (suc i) e l = digit_small base digits i (neither (no_digit base b) (has_odd base digits) e).1 (omega arith)

module _ (base before : ℕ) (digits : List ℕ) (i : ℕ) where
  -- one digit more
  pub read_turn : i < length digits
      → read_digits base before (drop i digits) ≡ read_digits base (before * base + digit_value (get_or digits i 0)) (drop (i + 1) digits)
  unfolding read_digits
  read_turn l = rw (add-one, drop-cons digits i 0)

  -- no digit is left
  pub read_end : length digits ≤ i → read_digits base before (drop i digits) ≡ before
  unfolding read_digits
  read_end l = rw (drop_of_length-le digits l)

-- to read on never makes a number smaller
pub read_grows : (before : ℕ) (digits : List ℕ) → before ≤ read_digits 10 before digits
unfolding read_digits
read_grows before [] = omega arith
read_grows before (b ∷ digits) = omega (arith, read_grows (before * 10 + digit_value b) digits)

module _ (v : List ℕ) where
  wrong_time : time_fault v ≡ true → time_read v ≡ None
  unfolding time_read
  wrong_time e = rw e

  -- no digit
  pub time_empty : length v < 1 → time_read v ≡ None
  unfolding time_fault
  time_empty h = wrong_time (rw (lt-ltb (length v) 1 h))

  -- too many digits
  pub time_long_lem : 20 < length v → time_read v ≡ None
  unfolding time_fault
  time_long_lem h = wrong_time (rw (lt-ltb 20 (length v) h) (or_right (ltb (length v) 1) refl))

  -- some byte is no digit
  pub time_odd : has_odd 10 v ≡ true → time_read v ≡ None
  unfolding time_fault
  time_odd h = wrong_time (rw h (or_right (ltb (length v) 1) (or_right (ltb 20 (length v)) refl)))

  -- more than 64 bits
  pub time_large : 2 ^ 64 ≤ read_digits 10 0 v → time_read v ≡ None
  unfolding time_fault
  time_large h =
      wrong_time
      (rw (le-leb (2 ^ 64) (read_digits 10 0 v) h)
      (or_right (ltb (length v) 1) (or_right (ltb 20 (length v)) (or_right (has_odd 10 v) refl))))

  -- any other is the number that the digits are
  pub time_right : 0 < length v → length v ≤ 20 → has_odd 10 v ≡ false → read_digits 10 0 v < 2 ^ 64
      → time_read v ≡ Some (read_digits 10 0 v)
  unfolding time_read time_fault
  time_right l h e s =
      rw (le-ltb (length v) 1 (omega arith), le-ltb 20 (length v) h, e, lt-leb (2 ^ 64) (read_digits 10 0 v) s)

-- one digit more passes 64 bits
pub read_large : (value : ℕ) (digits : List ℕ) (i : ℕ) → i < length digits → 2 ^ 64 ≤ value * 10 + digit_value (get_or digits i 0)
    → 2 ^ 64 ≤ read_digits 10 value (drop i digits)
read_large value digits i l h =
    rw (read_turn 10 value digits i l)
    (omega (arith, read_grows (value * 10 + digit_value (get_or digits i 0)) (drop (i + 1) digits)))
