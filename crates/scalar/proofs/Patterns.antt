-- When a pattern is a NaN's and when a float is one, by the tests that the code makes; and from a float to its pattern and back.
-- Assumes nothing.
use Rattle.std.proofs.Common.{◌≡◌, ℕ, ◌%◌, ◌^◌, ◌<◌, ◌≤◌, true, false, not, T, sym, refl, ap, ◌∙◌, subst, le-ltb, lt-ltb}
use mathlib.Core.Bool.{false≢true}
use lib.Ieee.{Float, nan, inf, fin, binary64, of_bits, to_bits, fits, lt, ne, is_nan, nan_bits}
use lib.Ieee.Bits.{is_true, of_bits-to_bits, nan_bits_is, nan_bits_above}
use lib.Ieee.Compare.{nan_differs}
use Rattle.loops.specs.Tests.{falsity}

pub only_nan : (x : Float) → is_nan x ≡ true → x ≡ nan
unfolding is_nan
only_nan nan e = refl
only_nan (inf s) e = cc
only_nan (fin s m k) e = cc

-- its other name
pub is_nan_lem : (x : Float) → is_nan x ≡ true → x ≡ nan
is_nan_lem = only_nan

-- what equals itself is no NaN
pub no_nan : (x : Float) → ne x x ≡ false → T (not (is_nan x))
unfolding is_nan
no_nan nan e = subst T (sym nan_differs ∙ e) tt
no_nan (inf s) e = tt
no_nan (fin s m k) e = tt

-- what is below something is no NaN
pub below_no_nan : (x y : Float) → lt x y ≡ true → T (not (is_nan x))
unfolding is_nan lt
below_no_nan nan y e = absurd (false≢true e)
below_no_nan (inf s) y e = tt
below_no_nan (fin s m k) y e = tt

-- ---- of a pattern: above 7FF0000000000000, the sign aside

pub read_nan : (w : ℕ) → T (nan_bits binary64 w) → of_bits binary64 w ≡ nan
read_nan w t = only_nan (of_bits binary64 w) (sym (nan_bits_is binary64 w) ∙ is_true _ t)

pub nan_pattern : (w : ℕ) → 0x7ff0_0000_0000_0000 < w % 2 ^ 63 → of_bits binary64 w ≡ nan
nan_pattern w h = only_nan (of_bits binary64 w) (sym (nan_bits_is binary64 w) ∙ nan_bits_above binary64 w ∙ lt-ltb _ _ h)

pub no_pattern : (w : ℕ) → w % 2 ^ 63 ≤ 0x7ff0_0000_0000_0000 → T (not (nan_bits binary64 w))
no_pattern w h = falsity (nan_bits_above binary64 w ∙ le-ltb _ _ h)

-- ---- the NaN that the code makes, and the pattern that it is written by

pub quiet : of_bits binary64 0x7ff8_0000_0000_0000 ≡ nan
unfolding of_bits
quiet = refl

pub to_bits-nan : to_bits binary64 nan ≡ 0x7ff8_0000_0000_0000
unfolding to_bits
to_bits-nan = refl

-- ---- a float is what its pattern is read as

pub back : (x : Float) (w : ℕ) → T (fits binary64 x) → to_bits binary64 x ≡ w → x ≡ of_bits binary64 w
back x w h e = sym (of_bits-to_bits binary64 x h) ∙ ap (of_bits binary64) e

pub both_ways : (x : Float) {w : ℕ} → T (fits binary64 x) → w ≡ to_bits binary64 x → (w ≡ to_bits binary64 x) × (of_bits binary64 w ≡ x)
both_ways x {w} h e = (e, sym (back x w h (sym e)))
