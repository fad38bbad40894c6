-- The square root of a value of binary64, rounded to the nearest value: document 01, 'The square root'. Definitions
-- that compute. For a positive finite x the document names three numbers: F, such that X = x / 2 ^ (2 * F) is from 2 ^
-- 104 to below 2 ^ 106; X itself; and R, the whole number nearest to the root of X. The answer is R * 2 ^ F. That these
-- definitions give just those numbers is proved: `Rooted.antt` has the statement. X is `big_x` there and here, R
-- `big_r`.
use Rattle.std.specs.Prelude.{ℕ, zero, suc, ◌+◌, ◌-◌, ◌*◌, ◌/◌, ◌^◌}
use Rattle.std.specs.Prelude.{true, false, cond, from_bits, nat_le, nat_lt, to_bits, Float}
use Rattle.std.specs.Float.{nan, inf, fin, binary64}
use Rattle.std.specs.Float.Ieee.{up, down, size, odd}

-- The whole part of the root of X, for an X below 4 ^ k: that of X / 4 doubled, or one more where the square of that is
-- still within X.
unfoldable pub floor_root : (k big_x : ℕ) → ℕ
floor_root zero big_x = 0
floor_root (suc k) big_x = let r = floor_root k (big_x / 4) * 2 in cond (nat_le ((r + 1) * (r + 1)) big_x) (r + 1) r

-- R: the whole number nearest to the root of X, for an X below 2 ^ 106. r + 1/2 lies below the root where r * r + r is
-- below X.
unfoldable pub whole_root : ℕ → ℕ
whole_root big_x = let r = floor_root 53 big_x in cond (nat_lt (r * r + r) big_x) (r + 1) r

-- x is taken as a whole number n of the smallest values, 2 ^ -1074.
-- F + 589, which is never below 0: half the digits of n, less one, rounded down.
unfoldable pub scale_of : ℕ → ℕ
scale_of n = (size n - 1) / 2

-- X = x / 2 ^ (2 * F): the division leaves nothing over
unfoldable pub scaled_whole : ℕ → ℕ
scaled_whole n = n * 2 ^ 104 / 2 ^ (2 * scale_of n)

-- R * 2 ^ F
unfoldable pub units_root : ℕ → Float
units_root n = odd 53 false (whole_root (scaled_whole n)) (scale_of n) 589

-- The zeros and +infinity are their own roots. NaN and what is below 0 have the root NaN.
unfoldable pub root_of : Float → Float
root_of nan = nan
root_of (inf true) = nan
root_of (inf false) = inf false
root_of (fin s zero e) = fin s zero e
root_of (fin true (suc m) e) = nan
root_of (fin false (suc m) e) = units_root (suc m * up e * 2 ^ 1074 / down e)

-- The same from pattern to pattern. Every NaN pattern is read as the one NaN, which is written as 7FF8000000000000.
unfoldable pub root_bits : ℕ → ℕ
root_bits w = to_bits binary64 (root_of (from_bits binary64 w))
