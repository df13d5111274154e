-- How many decimal digits may still be counted, and that a tenth has one less.
use Prim.Native.Nat.{ℕ, zero, suc, ◌*◌, ◌/◌, ◌^◌, ◌≤◌, ◌<◌}
use native.Mathlib.Nat.{pow-suc}
use native.Mathlib.Omega.{arith}

-- a number that is not below 10 has more than one digit
pub tenth_room : (f n : ℕ) → 10 ≤ n → n < 10 ^ suc f → 1 ≤ f
tenth_room zero n h l = absurd (omega arith)
tenth_room (suc f) n h l = omega arith

-- a tenth has one digit less
pub tenth_below : (f n : ℕ) → n < 10 ^ suc f → n / 10 < 10 ^ f
tenth_below f n l = let q : n < 10 ^ f * 10 = rw pow-suc at l in omega arith
