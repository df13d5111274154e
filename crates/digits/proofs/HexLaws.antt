-- The bytes that hexadecimal digits are, each by its place, and the numbers that they are.
use mathlib.Core.Path.{◌≡◌, refl, sym, ap, ap₂, ◌∙◌}
use mathlib.Core.Bool.{true, false}
use mathlib.Core.List.{List, [], ◌∷◌}
use Prim.Native.Nat.{ℕ, zero, suc, ◌+◌, ◌-◌, ◌*◌, ◌^◌, ◌≤◌, ◌<◌}
use native.Mathlib.Nat.{zero-add}
use native.Mathlib.Omega.{arith}
use lib.ListN.{length, get_or}
use borrow.Author.Tests.{eq-eqb, ne_eqb}
use Rattle.format.specs.Number.{number, number_at}
use Rattle.format.specs.Tests.{any}
use Rattle.format.proofs.Tests.{neither}
use Rattle.format.proofs.Numbers.{number_at_add, number_at_one}
use Rattle.format.proofs.Stores.{number_at_small}
use Rattle.exchange.specs.Digits.{digit_value, no_digit, read_digits, hex_bytes}
use Rattle.exchange.specs.Import.{boot_fault}
use Rattle.digits.proofs.ReadLaws.{has_odd, digit_small}

-- a byte is two digits, the high half first
pub hex_byte : (digits : List ℕ) (i : ℕ) → 2 * i + 2 ≤ length digits
    → get_or (hex_bytes digits) i 0 ≡ digit_value (get_or digits (2 * i) 0) * 16 + digit_value (get_or digits (2 * i + 1) 0)
unfolding hex_bytes read_digits
hex_byte [] i h = absurd (omega arith)
hex_byte (a ∷ []) i h = absurd (omega arith)
hex_byte (a ∷ b ∷ digits) zero h = rw (zero-add (digit_value a))
hex_byte (a ∷ b ∷ digits) (suc i) h =
    let e : 2 * suc i ≡ suc (suc (2 * i)) = omega arith in
    let f : 2 * suc i + 1 ≡ suc (suc (2 * i + 1)) = omega arith in
    hex_byte digits i (omega arith)
    ∙ sym (ap₂ (λ (m n : ℕ). digit_value (get_or (a ∷ b ∷ digits) m 0) * 16 + digit_value (get_or (a ∷ b ∷ digits) n 0)) e f)

-- and below 256
pub hex_small : (digits : List ℕ) → has_odd 16 digits ≡ false → (i : ℕ) → get_or (hex_bytes digits) i 0 < 256
unfolding hex_bytes read_digits any
hex_small [] e i = omega arith
hex_small (a ∷ []) e i = omega arith
hex_small (a ∷ b ∷ digits) e zero =
    omega (arith, digit_small 16 (a ∷ b ∷ digits) 0 e (omega arith), digit_small 16 (a ∷ b ∷ digits) 1 e (omega arith))
hex_small (a ∷ b ∷ digits) e (suc i) =
    hex_small digits (neither (no_digit 16 b) (has_odd 16 digits) (neither (no_digit 16 a) (has_odd 16 (b ∷ digits)) e).1).1 i

module _ (bytes : List ℕ) (at : ℕ) where
  -- one byte more in front of a number
  pub number_front : (k : ℕ) → number_at (1 + k) bytes at ≡ number_at k bytes (at + 1) * 256 + get_or bytes at 0
  number_front k = omega (arith, number_at_add 1 k bytes at, number_at_one bytes at)

  -- a number of up to 7 bytes is below 256 ^ 7
  pub seven_small : ((i : ℕ) → get_or bytes i 0 < 256) → (k : ℕ) → k ≤ 7 → number_at k bytes at < 256 ^ 7
  seven_small s k h =
      let e : 7 ≡ k + (7 - k) = omega arith in
      let small : number_at (k + (7 - k)) bytes at < 256 ^ 7 = rw (← e) (number_at_small 7 bytes at s) in
      omega (arith, small, number_at_add k (7 - k) bytes at)

module _ (bytes : List ℕ) (at i : ℕ) where
  -- of a word's bytes, taken from the last on, one more
  pub word_turn : 0 < i → i ≤ 8
      → number_at (8 - i) bytes (at + i) * 256 + get_or bytes (at + (i - 1)) 0 ≡ number_at (8 - (i - 1)) bytes (at + (i - 1))
  word_turn l h =
      let p : at + i ≡ at + (i - 1) + 1 = omega arith in
      let n : 1 + (8 - i) ≡ 8 - (i - 1) = omega arith in
      ap (λ (m : ℕ). number_at (8 - i) bytes m * 256 + get_or bytes (at + (i - 1)) 0) p
      ∙ sym (number_front bytes (at + (i - 1)) (8 - i))
      ∙ ap (λ (m : ℕ). number_at m bytes (at + (i - 1))) n

  -- all taken
  pub word_end : i ≤ 0 → number_at (8 - i) bytes (at + i) ≡ number_at 8 bytes at
  word_end h =
      let p : at + i ≡ at = omega arith in
      let n : 8 - i ≡ 8 = omega arith in
      ap₂ (λ (m k : ℕ). number_at m bytes k) n p

-- none taken
pub word_start : (bytes : List ℕ) (at : ℕ) → 0 ≡ number_at (8 - 8) bytes at
unfolding number_at number
word_start bytes at = refl

-- not 32 digits
pub boot_sized : (v : List ℕ) → (length v ≡ 32 → ⊥) → boot_fault v ≡ true
unfolding boot_fault
boot_sized v h = rw (ne_eqb (length v) 32 h)

-- 32 of them
pub boot_bytes_lem : (v : List ℕ) → length v ≡ 32 → boot_fault v ≡ has_odd 16 v
unfolding boot_fault
boot_bytes_lem v h = rw (eq-eqb (length v) 32 h)
