-- Worked cases, by evaluation: patterns in, patterns out. The answers are those of the Rust functions on the same
-- patterns.
use Rattle.std.specs.Prelude.{◌≡◌, ℕ, true, false, List, [], ◌∷◌, map, refl, Float}
use Rattle.std.specs.Float.{binary64}
use Rattle.std.specs.Float.Ieee.{of_bits, to_bits, neg, le, eq}
use Rattle.scalar.specs.Sign.{modulus_of, signum_of, to_exp_of}
use Rattle.scalar.specs.Class.{is_zero, is_finite}
use Rattle.scalar.specs.Root.{floor_root, whole_root, scale_of, scaled_whole, units_root, root_of, root_bits}

-- 2, 2 ^ -1074, 1, 4, 1 - 2 ^ -53, the largest finite, the smallest normal, 0, -0, +infinity, -1, -infinity, NaN
roots : map root_bits
    (0x4000_0000_0000_0000 ∷ 1 ∷ 0x3ff0_0000_0000_0000 ∷ 0x4010_0000_0000_0000 ∷ 0x3fef_ffff_ffff_ffff
    ∷ 0x7fef_ffff_ffff_ffff ∷ 0x0010_0000_0000_0000
    ∷ 0 ∷ 0x8000_0000_0000_0000 ∷ 0x7ff0_0000_0000_0000 ∷ 0xbff0_0000_0000_0000 ∷ 0xfff0_0000_0000_0000
    ∷ 0x7ff8_0000_0000_0000 ∷ [])
    ≡ 0x3ff6_a09e_667f_3bcd ∷ 0x1e60_0000_0000_0000 ∷ 0x3ff0_0000_0000_0000 ∷ 0x4000_0000_0000_0000
    ∷ 0x3fef_ffff_ffff_ffff ∷ 0x5fef_ffff_ffff_ffff ∷ 0x2000_0000_0000_0000
    ∷ 0 ∷ 0x8000_0000_0000_0000 ∷ 0x7ff0_0000_0000_0000 ∷ 0x7ff8_0000_0000_0000 ∷ 0x7ff8_0000_0000_0000
    ∷ 0x7ff8_0000_0000_0000 ∷ []
unfolding root_bits floor_root whole_root scale_of scaled_whole units_root root_of of_bits to_bits
roots = refl

-- 0, -0, 1, -1, the smallest number and its negative, +infinity, -infinity, NaN
patterns : List ℕ
patterns =
    0 ∷ 0x8000_0000_0000_0000 ∷ 0x3ff0_0000_0000_0000 ∷ 0xbff0_0000_0000_0000 ∷ 1 ∷ 0x8000_0000_0000_0001
    ∷ 0x7ff0_0000_0000_0000 ∷ 0xfff0_0000_0000_0000 ∷ 0x7ff8_0000_0000_0000 ∷ []

on : (Float → Float) → ℕ → ℕ
on f w = to_bits binary64 (f (of_bits binary64 w))

signums : map (on signum_of) patterns
    ≡ 0x3ff0_0000_0000_0000 ∷ 0xbff0_0000_0000_0000 ∷ 0x3ff0_0000_0000_0000 ∷ 0xbff0_0000_0000_0000
    ∷ 0x3ff0_0000_0000_0000 ∷ 0xbff0_0000_0000_0000 ∷ 0x3ff0_0000_0000_0000 ∷ 0xbff0_0000_0000_0000
    ∷ 0x7ff8_0000_0000_0000 ∷ []
unfolding patterns on signum_of neg of_bits to_bits
signums = refl

moduli : map (on modulus_of) patterns ≡ 0 ∷ 0 ∷ 0x3ff0_0000_0000_0000 ∷ 0x3ff0_0000_0000_0000 ∷ 1 ∷ 1
    ∷ 0x7ff0_0000_0000_0000 ∷ 0x7ff0_0000_0000_0000 ∷ 0x7ff8_0000_0000_0000 ∷ []
unfolding patterns on modulus_of of_bits to_bits
moduli = refl

magnitudes : map (on (λ x. (to_exp_of x).magnitude)) patterns
    ≡ 0 ∷ 0x8000_0000_0000_0000 ∷ 0x3ff0_0000_0000_0000 ∷ 0x3ff0_0000_0000_0000 ∷ 1 ∷ 1 ∷ 0x7ff0_0000_0000_0000
    ∷ 0x7ff0_0000_0000_0000 ∷ 0x7ff8_0000_0000_0000 ∷ []
unfolding patterns on to_exp_of neg le of_bits to_bits
magnitudes = refl

signs : map (on (λ x. (to_exp_of x).sign)) patterns
    ≡ 0x3ff0_0000_0000_0000 ∷ 0x3ff0_0000_0000_0000 ∷ 0x3ff0_0000_0000_0000 ∷ 0xbff0_0000_0000_0000
    ∷ 0x3ff0_0000_0000_0000 ∷ 0xbff0_0000_0000_0000 ∷ 0x3ff0_0000_0000_0000 ∷ 0xbff0_0000_0000_0000
    ∷ 0xbff0_0000_0000_0000 ∷ []
unfolding patterns on to_exp_of neg le of_bits to_bits
signs = refl

finites : map (λ w. is_finite (of_bits binary64 w)) patterns
    ≡ true ∷ true ∷ true ∷ true ∷ true ∷ true ∷ false ∷ false ∷ false ∷ []
unfolding patterns is_finite of_bits
finites = refl

zeros : map (λ w. is_zero (of_bits binary64 w)) patterns
    ≡ true ∷ true ∷ false ∷ false ∷ false ∷ false ∷ false ∷ false ∷ false ∷ []
unfolding patterns eq of_bits
zeros = refl
