-- Digits written at an offset of a buffer: those of a number from the back, those of a word byte by byte.
use mathlib.Core.Path.{◌≡◌, sym, ap, ◌∙◌}
use mathlib.Core.List.{List}
use Prim.Native.Nat.{ℕ, zero, suc, ◌+◌, ◌-◌, ◌*◌, ◌/◌, ◌%◌, ◌≤◌, ◌<◌}
use native.Mathlib.Omega.{arith}
use lib.ListN.{length, set}
use Rattle.format.specs.Store.{bytes_of}
use Rattle.format.proofs.Stores.{length_bytes_of}
use Rattle.exchange.specs.Digits.{digit, digits_of, hex_of}
use Rattle.exchange.specs.Export.{laid}
use Rattle.exchange.proofs.DigitLaws.{length_digits}
use Rattle.exchange.proofs.HexLaws.{length_hex}
use Rattle.exchange.proofs.LaidLaws.{laid_none, laid_append, laid_set}

-- one more digit, from the back: what is written and what is still to write are together as before
pub digits_turn : (at base i left : ℕ) (buffer : List ℕ) → 0 < i → at + i ≤ length buffer
    → laid at (digits_of base (i - 1) (left / base)) (set buffer (at + (i - 1)) (digit (left % base))) ≡ laid at (digits_of base i left) buffer
unfolding digits_of
digits_turn at base zero left buffer p h = absurd (omega arith)
digits_turn at base (suc i) left buffer p h =
    let e : suc i - 1 ≡ i = omega arith in
    rw e (laid_set at i (digit (left % base)) (digits_of base i (left / base)) buffer (length_digits base i (left / base)) (omega arith))

-- no digit is still to write
pub digits_end : (at base left : ℕ) (buffer : List ℕ) → laid at (digits_of base 0 left) buffer ≡ buffer
unfolding digits_of
digits_end at base left buffer = laid_none at buffer

hex_first : (at m x : ℕ) (buffer : List ℕ) → at + 2 * suc m ≤ length buffer
    → laid (at + 2) (hex_of (bytes_of m (x / 256))) (laid at (digits_of 16 2 (x % 256)) buffer) ≡ laid at (hex_of (bytes_of (suc m) x)) buffer
unfolding hex_of bytes_of
hex_first at m x buffer h =
    let d = digits_of 16 2 (x % 256) in
    let r = hex_of (bytes_of m (x / 256)) in
    let l = length_digits 16 2 (x % 256) in
    ap (λ (n : ℕ). laid (at + n) r (laid at d buffer)) (sym l)
    ∙ laid_append at d r buffer (omega (arith, l, length_hex (bytes_of m (x / 256)), length_bytes_of m (x / 256)))

-- one more byte: what is written and what is still to write are together as before
pub hex_turn : (at i left : ℕ) (buffer : List ℕ) → i < 8 → at + 16 ≤ length buffer
    → laid (at + 2 * (i + 1)) (hex_of (bytes_of (8 - (i + 1)) (left / 256))) (laid (at + 2 * i) (digits_of 16 2 (left % 256)) buffer)
    ≡ laid (at + 2 * i) (hex_of (bytes_of (8 - i) left)) buffer
hex_turn at i left buffer p h =
    let e : at + 2 * (i + 1) ≡ at + 2 * i + 2 = omega arith in
    let k : 8 - i ≡ suc (8 - (i + 1)) = omega arith in
    rw (e, k) (hex_first (at + 2 * i) (8 - (i + 1)) left buffer (omega arith))

-- no byte is still to write
pub hex_end : (at left : ℕ) (buffer : List ℕ) → laid at (hex_of (bytes_of 0 left)) buffer ≡ buffer
unfolding hex_of bytes_of
hex_end at left buffer = laid_none at buffer
