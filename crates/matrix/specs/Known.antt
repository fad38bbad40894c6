-- Worked cases, by evaluation: patterns in, patterns out. Dot products, the largest magnitude and the sums of a row
-- were computed by the functions of the plain model of the Rust, oracle/src/model.rs. It has none for norms, scaling
-- and one entry: those answers were worked out in Rust by the formulas of docs/SUMS.md. Where a length or a place does
-- not fit, the Rust has no answer, and a case shows what is defined there. -0 is 0x8000_0000_0000_0000, and NaN is
-- 0x7ff8_0000_0000_0000.
use Rattle.std.specs.Prelude.{◌≡◌, refl, ℕ, true, false, List, [], ◌∷◌, ◌++◌, map, Float}
use Rattle.std.specs.Float.{binary64}
use Rattle.std.specs.Float.Ieee.{of_bits, to_bits, add, mul, div, le}
use Rattle.loops.specs.Times.{times, range}
use Rattle.scalar.specs.Root.{floor_root, whole_root, scale_of, units_root, root_of}
use Rattle.scalar.specs.Root.{scaled_whole}
use Rattle.scalar.specs.Sign.{modulus_of}
use Rattle.matrix.specs.Sum.{bare, lane, lanes_summed, lanes}
use Rattle.matrix.specs.Vectors.{products, dot_of, norm_squared, norm_of, each_to, filled, scaled, unscaled}
use Rattle.matrix.specs.Vectors.{normalized, largest}
use Rattle.matrix.specs.Fits.{block_fits}
use Rattle.matrix.specs.Entries.{in_block, on_entries, entry_of, put_of}
use Rattle.matrix.specs.Product.{along}

-- from patterns to numbers, and back
unfoldable pub numbers : List ℕ → List Float
numbers = map (of_bits binary64)

unfoldable pub shown : List Float → List ℕ
shown = map (to_bits binary64)

-- every definition that a case computes with: one name to unfold them all
unfoldable pub opened : Unit {0}
unfolding numbers shown times range bare lane lanes_summed lanes dot_of norm_squared norm_of each_to filled scaled
    unscaled normalized largest block_fits in_block on_entries entry_of put_of
    along modulus_of floor_root whole_root scale_of scaled_whole units_root root_of add mul div le of_bits to_bits
opened = tt

-- ---- sums

-- -0.8 -0.8 0.8 0.4 -0.3 0.7 -0.7 0.4 -0.4
x : List ℕ
x = 0xbfe9_9999_9999_999a ∷ 0xbfe9_9999_9999_999a ∷ 0x3fe9_9999_9999_999a ∷ 0x3fd9_9999_9999_999a
    ∷ 0xbfd3_3333_3333_3333
    ∷ 0x3fe6_6666_6666_6666 ∷ 0xbfe6_6666_6666_6666 ∷ 0x3fd9_9999_9999_999a ∷ 0xbfd9_9999_9999_999a ∷ []

-- -0.3 0.1 -0.1 -0.9 -0.7 -0.4 -0.8 0.1 0.4
y : List ℕ
y = 0xbfd3_3333_3333_3333 ∷ 0x3fb9_9999_9999_999a ∷ 0xbfb9_9999_9999_999a ∷ 0xbfec_cccc_cccc_cccd
    ∷ 0xbfe6_6666_6666_6666
    ∷ 0xbfd9_9999_9999_999a ∷ 0xbfe9_9999_9999_999a ∷ 0x3fb9_9999_9999_999a ∷ 0x3fd9_9999_9999_999a ∷ []

-- Nine terms: eight accumulators and one term left over. Eighteen: two terms for each accumulator, and two left over.
-- Left to right, with other pairs of accumulators, or fused, both have other bits; with four accumulators the eighteen
-- have. 0 * -1 + 1 * -0: both products are -0, and the leading zero makes +0 of them. Then lists of different lengths,
-- and no numbers at all.
dots : shown (dot_of (numbers x) (numbers y) ∷ dot_of (numbers (x ++ y)) (numbers (y ++ y))
    ∷ dot_of (numbers (0 ∷ 0x3ff0_0000_0000_0000 ∷ []))
    (numbers (0xbff0_0000_0000_0000 ∷ 0x8000_0000_0000_0000 ∷ []))
    ∷ dot_of (numbers (0 ∷ 0x3ff0_0000_0000_0000 ∷ [])) (numbers (0x4018_0000_0000_0000 ∷ [])) ∷ dot_of [] [] ∷ [])
    ≡ 0x3fb7_0a3d_70a3_d6f8 ∷ 0x4003_c28f_5c28_f5c3 ∷ 0 ∷ 0x7ff8_0000_0000_0000 ∷ 0 ∷ []
unfolding opened x y
dots = refl

-- Left to right without a leading zero: the same two products give -0. Then 0.1 + 0.2 + 0.3, which has other bits from
-- the right; -0 alone; no terms.
bares : shown (bare 2 (products (numbers (0 ∷ 0x3ff0_0000_0000_0000 ∷ []))
    (numbers (0xbff0_0000_0000_0000 ∷ 0x8000_0000_0000_0000 ∷ [])))
    ∷ bare 3 (products (numbers (0x3fb9_9999_9999_999a ∷ 0x3fc9_9999_9999_999a ∷ 0x3fd3_3333_3333_3333 ∷ []))
    (numbers (0x3ff0_0000_0000_0000 ∷ 0x3ff0_0000_0000_0000 ∷ 0x3ff0_0000_0000_0000 ∷ [])))
    ∷ bare 1 (products (numbers (0x8000_0000_0000_0000 ∷ [])) (numbers (0x3ff0_0000_0000_0000 ∷ [])))
    ∷ bare 0 (products [] []) ∷ [])
    ≡ 0x8000_0000_0000_0000 ∷ 0x3fe3_3333_3333_3334 ∷ 0x8000_0000_0000_0000 ∷ 0 ∷ []
unfolding opened
bares = refl

-- ---- norm, scaling, largest magnitude

-- The squares of nine numbers, and of 0.1 0.6 0.8: both have other bits in other orders, and the norm of the latter
-- too. The norm of 3 4, and of no numbers.
norms : shown (norm_squared lanes (numbers x) ∷ norm_squared bare
    (numbers (0x3fb9_9999_9999_999a ∷ 0x3fe3_3333_3333_3333 ∷ 0x3fe9_9999_9999_999a ∷ []))
    ∷ norm_of bare (numbers (0x3fb9_9999_9999_999a ∷ 0x3fe3_3333_3333_3333 ∷ 0x3fe9_9999_9999_999a ∷ []))
    ∷ norm_of lanes (numbers (0x4008_0000_0000_0000 ∷ 0x4010_0000_0000_0000 ∷ [])) ∷ norm_of lanes [] ∷ [])
    ≡ 0x400b_c28f_5c28_f5c4 ∷ 0x3ff0_28f5_c28f_5c2a ∷ 0x3ff0_146d_d682_87f4 ∷ 0x4014_0000_0000_0000 ∷ 0 ∷ []
unfolding opened x
norms = refl

-- Of -0; of 1 -3 2 -0; of NaN -1, where the NaN held gives way; of 5 NaN, where the NaN that comes stays; of 5 NaN -1,
-- where the 5 is forgotten; of no numbers.
largests : shown (largest (numbers (0x8000_0000_0000_0000 ∷ []))
    ∷ largest (numbers (0x3ff0_0000_0000_0000 ∷ 0xc008_0000_0000_0000 ∷ 0x4000_0000_0000_0000 ∷ 0x8000_0000_0000_0000
    ∷ []))
    ∷ largest (numbers (0x7ff8_0000_0000_0000 ∷ 0xbff0_0000_0000_0000 ∷ []))
    ∷ largest (numbers (0x4014_0000_0000_0000 ∷ 0x7ff8_0000_0000_0000 ∷ []))
    ∷ largest (numbers (0x4014_0000_0000_0000 ∷ 0x7ff8_0000_0000_0000 ∷ 0xbff0_0000_0000_0000 ∷ [])) ∷ largest []
    ∷ [])
    ≡ 0 ∷ 0x4008_0000_0000_0000 ∷ 0x3ff0_0000_0000_0000 ∷ 0x7ff8_0000_0000_0000 ∷ 0x3ff0_0000_0000_0000 ∷ 0 ∷ []
unfolding opened
largests = refl

-- 3 -0 -1 divided by 10 and times 0.1: 3 / 10 and 3 * 0.1 differ, so no division is a product with a reciprocal. 3 4
-- -0, each divided by the norm.
scalings : map shown (unscaled (of_bits binary64 0x4024_0000_0000_0000)
    (numbers (0x4008_0000_0000_0000 ∷ 0x8000_0000_0000_0000 ∷ 0xbff0_0000_0000_0000 ∷ []))
    ∷ scaled (of_bits binary64 0x3fb9_9999_9999_999a)
    (numbers (0x4008_0000_0000_0000 ∷ 0x8000_0000_0000_0000 ∷ 0xbff0_0000_0000_0000 ∷ []))
    ∷ normalized lanes (numbers (0x4008_0000_0000_0000 ∷ 0x4010_0000_0000_0000 ∷ 0x8000_0000_0000_0000 ∷ [])) ∷ [])
    ≡ (0x3fd3_3333_3333_3333 ∷ 0x8000_0000_0000_0000 ∷ 0xbfb9_9999_9999_999a ∷ [])
    ∷ (0x3fd3_3333_3333_3334 ∷ 0x8000_0000_0000_0000 ∷ 0xbfb9_9999_9999_999a ∷ [])
    ∷ (0x3fe3_3333_3333_3333 ∷ 0x3fe9_9999_9999_999a ∷ 0x8000_0000_0000_0000 ∷ []) ∷ []
unfolding opened
scalings = refl

-- 1 NaN 5 filled with -0, with NaN, and a list without a number
fills : map shown (filled (of_bits binary64 0x8000_0000_0000_0000)
    (numbers (0x3ff0_0000_0000_0000 ∷ 0x7ff8_0000_0000_0000 ∷ 0x4014_0000_0000_0000 ∷ []))
    ∷ filled (of_bits binary64 0x7ff8_0000_0000_0000) (numbers (0x3ff0_0000_0000_0000 ∷ []))
    ∷ filled (of_bits binary64 0) [] ∷ [])
    ≡ (0x8000_0000_0000_0000 ∷ 0x8000_0000_0000_0000 ∷ 0x8000_0000_0000_0000 ∷ []) ∷ (0x7ff8_0000_0000_0000 ∷ []) ∷ []
    ∷ []
unfolding opened
fills = refl

-- ---- a matrix

-- order, number of entries, and the rows and columns below which the block lies
fitting : block_fits 2 4 2 2 ∷ block_fits 2 3 2 2 ∷ block_fits 2 4 3 2 ∷ block_fits 2 4 2 3 ∷ block_fits 0 0 0 0
    ∷ block_fits 64 4096 64 64 ∷ block_fits 65 4225 1 1 ∷ []
    ≡ true ∷ false ∷ false ∷ false ∷ true ∷ true ∷ false ∷ []
unfolding block_fits
fitting = refl

-- the rows 1 3 and 2 -0
square : List ℕ
square = 0x3ff0_0000_0000_0000 ∷ 0x4000_0000_0000_0000 ∷ 0x4008_0000_0000_0000 ∷ 0x8000_0000_0000_0000 ∷ []

-- Three places that there are; then row 2 of column 0, where a 3 would be found; column 2; and a matrix with too few
-- entries.
entries : shown (entry_of 2 1 0 (numbers square) ∷ entry_of 2 0 1 (numbers square)
    ∷ entry_of 2 1 1 (numbers square)
    ∷ entry_of 2 2 0 (numbers square) ∷ entry_of 2 0 2 (numbers square)
    ∷ entry_of 2 1 0 (numbers (0 ∷ 0x3ff0_0000_0000_0000 ∷ [])) ∷ [])
    ≡ 0x4000_0000_0000_0000 ∷ 0x4008_0000_0000_0000 ∷ 0x8000_0000_0000_0000 ∷ 0x7ff8_0000_0000_0000
    ∷ 0x7ff8_0000_0000_0000 ∷ 0x7ff8_0000_0000_0000 ∷ []
unfolding opened square
entries = refl

-- 6 put into two places that there are, and into two that there are not
puts : map shown (put_of 2 1 0 (of_bits binary64 0x4018_0000_0000_0000) (numbers square)
    ∷ put_of 2 0 1 (of_bits binary64 0x4018_0000_0000_0000) (numbers square)
    ∷ put_of 2 2 0 (of_bits binary64 0x4018_0000_0000_0000) (numbers square)
    ∷ put_of 2 0 2 (of_bits binary64 0x4018_0000_0000_0000) (numbers square) ∷ [])
    ≡ (0x3ff0_0000_0000_0000 ∷ 0x4018_0000_0000_0000 ∷ 0x4008_0000_0000_0000 ∷ 0x8000_0000_0000_0000 ∷ [])
    ∷ (0x3ff0_0000_0000_0000 ∷ 0x4000_0000_0000_0000 ∷ 0x4018_0000_0000_0000 ∷ 0x8000_0000_0000_0000 ∷ []) ∷ square
    ∷ square ∷ []
unfolding opened square
puts = refl

-- the rows 0.1 -0 0, 0.2 3 0.1 and 0.3 0.7 0.9
three : List ℕ
three =
    0x3fb9_9999_9999_999a ∷ 0x3fc9_9999_9999_999a ∷ 0x3fd3_3333_3333_3333 ∷ 0x8000_0000_0000_0000
    ∷ 0x4008_0000_0000_0000
    ∷ 0x3fe6_6666_6666_6666 ∷ 0 ∷ 0x3fb9_9999_9999_999a ∷ 0x3fec_cccc_cccc_cccd ∷ []

-- The first two rows of the last two columns times 0.1 -3: -0 and -0 give -0, with a leading zero they would not;
-- 3 * 0.1 and 0.1 * -3 give 0, fused they would not. The three rows times 0.3 0.1 0.7: the last has other bits from the
-- right.
along_rows : map shown (
    map (along (numbers (0x3fb9_9999_9999_999a ∷ 0xc008_0000_0000_0000 ∷ [])) 3 1 (numbers three)) (0 ∷ 1 ∷ [])
    ∷ map (along (numbers (0x3fd3_3333_3333_3333 ∷ 0x3fb9_9999_9999_999a ∷ 0x3fe6_6666_6666_6666 ∷ [])) 3 0
    (numbers three))
    (0 ∷ 1 ∷ 2 ∷ [])
    ∷ [])
    ≡ (0x8000_0000_0000_0000 ∷ 0 ∷ [])
    ∷ (0x3f9e_b851_eb85_1eb8 ∷ 0x3fdb_851e_b851_eb86 ∷ 0x3fe9_47ae_147a_e148 ∷ []) ∷ []
unfolding opened three
along_rows = refl
