-- Worked cases, by evaluation: patterns in, patterns out. Axes and Q were computed by the functions of the plain model
-- of the Rust, oracle/src/model.rs, and a cleared column by the lines of its reduction. Which of the three ways it is,
-- and what stands in the workspace, the model does not say: there, and where a length or a place does not fit, a case
-- shows what is defined. -0 is 0x8000_0000_0000_0000, and NaN is 0x7ff8_0000_0000_0000.
use Rattle.std.specs.Prelude.{◌≡◌, refl, ℕ, cond, List, [], ◌∷◌, ◌++◌, map}
use Rattle.std.specs.Float.{binary64}
use Rattle.std.specs.Float.Ieee.{to_bits, neg, eq}
use Rattle.loops.specs.Down.{down}
use Rattle.loops.specs.Part.{on_part}
use Rattle.scalar.specs.Sign.{signum_of, to_exp_of}
use Rattle.matrix.specs.Sum.{lanes, bare}
use Rattle.matrix.specs.Vectors.{copied}
use Rattle.matrix.specs.Known.{numbers, shown, opened}
use Rattle.reflection.specs.Reflected.{mirrored_columns, reflected, mirrored_rows, reflected_rows}
use Rattle.reflection.specs.Reflected.{down as down_column}
use Rattle.householder.specs.Axis.{AxisAnswer, signed_norm, factor_of, shifted, all_zero, way_of, in_way, axis_of}
use Rattle.householder.specs.Axis.{way_reflected, way_all_zero, way_too_small}
use Rattle.householder.specs.Cleared.{Cleared, both_sides, cleared_here, clear_of}
use Rattle.householder.specs.Assembled.{identity, with_axis, assembled}

-- every definition that a case computes with
unfoldable pub opened_here : Unit {0}
unfolding opened signum_of to_exp_of signed_norm factor_of shifted all_zero way_of in_way axis_of on_part
    down_column mirrored_columns reflected mirrored_rows reflected_rows copied both_sides cleared_here clear_of down
    identity with_axis assembled neg eq
opened_here = tt

-- ---- the axis

-- 3 4 | -3 4 | -0 2 | 0.6 0.3 0.3 | -0 0 | 2 ^ -600 0 | -(2 ^ -600) 0 | NaN 1
columns : List (List ℕ)
columns = (0x4008_0000_0000_0000 ∷ 0x4010_0000_0000_0000 ∷ []) ∷ (0xc008_0000_0000_0000 ∷ 0x4010_0000_0000_0000 ∷ [])
    ∷ (0x8000_0000_0000_0000 ∷ 0x4000_0000_0000_0000 ∷ [])
    ∷ (0x3fe3_3333_3333_3333 ∷ 0x3fd3_3333_3333_3333 ∷ 0x3fd3_3333_3333_3333 ∷ []) ∷ (0x8000_0000_0000_0000 ∷ 0 ∷ [])
    ∷ (0x1a70_0000_0000_0000 ∷ 0 ∷ [])
    ∷ (0x9a70_0000_0000_0000 ∷ 0 ∷ []) ∷ (0x7ff8_0000_0000_0000 ∷ 0x3ff0_0000_0000_0000 ∷ []) ∷ []

ways : map (λ c. way_of lanes (numbers c)) columns
    ≡ way_reflected ∷ way_reflected ∷ way_reflected ∷ way_reflected ∷ way_all_zero ∷ way_too_small ∷ way_too_small ∷ way_reflected ∷ []
unfolding opened_here columns
ways = refl

-- the column as it is left; the norm; and 1 where there is a reflection
answer : AxisAnswer → List ℕ
answer r = shown r.axis ++ to_bits binary64 r.norm ∷ cond r.reflected 1 0 ∷ []

answers : List (List ℕ)
answers = (0x3fec_9f25_c5bf_edda ∷ 0x3fdc_9f25_c5bf_edda ∷ 0xc014_0000_0000_0000 ∷ 1 ∷ [])
    ∷ (0xbfec_9f25_c5bf_edda ∷ 0x3fdc_9f25_c5bf_edda ∷ 0x4014_0000_0000_0000 ∷ 1 ∷ [])
    ∷ (0x3fe6_a09e_667f_3bcd ∷ 0x3fe6_a09e_667f_3bcd ∷ 0xc000_0000_0000_0000 ∷ 1 ∷ [])
    ∷ (0x3fee_7f25_161f_bb38 ∷ 0x3fcb_6a76_8c46_6819 ∷ 0x3fcb_6a76_8c46_6819 ∷ 0xbfe7_83dd_b1a4_8e37 ∷ 1 ∷ [])
    ∷ (0 ∷ 0 ∷ 0 ∷ 0 ∷ []) ∷ (0x1a70_0000_0000_0000 ∷ 0 ∷ 0 ∷ 0 ∷ [])
    ∷ (0x9a70_0000_0000_0000 ∷ 0 ∷ 0x8000_0000_0000_0000 ∷ 0 ∷ [])
    ∷ (0x7ff8_0000_0000_0000 ∷ 0x7ff8_0000_0000_0000 ∷ 0x7ff8_0000_0000_0000 ∷ 1 ∷ []) ∷ []

-- Squares are never -0, so both orders give the same on two or three numbers. 0.6 0.3 0.3 has other bits where the sum
-- goes from the right; the first four have without the second division. No reflection: -0 becomes +0, and the norm is
-- +0, or -0 where the first number is below 0.
axis_known : map (λ c. answer (axis_of lanes (numbers c))) columns
    ∷ map (λ c. answer (axis_of bare (numbers c))) columns ∷ [] ≡ answers ∷ answers ∷ []
unfolding opened_here columns answer answers
axis_known = refl

-- nine numbers, whose sums have eight accumulators: all but the flag have other bits left to right, and all of the axis
-- without the second division
nine : answer (axis_of lanes (numbers (
    0xbfd3_3333_3333_3333 ∷ 0x3fe9_9999_9999_999a ∷ 0x3fe6_6666_6666_6666 ∷ 0x3fd3_3333_3333_3333
    ∷ 0x3fe0_0000_0000_0000
    ∷ 0xbfd9_9999_9999_999a ∷ 0xbfc9_9999_9999_999a ∷ 0xbfec_cccc_cccc_cccd ∷ 0x3fec_cccc_cccc_cccd ∷ [])))
    ≡ 0xbfe8_6762_07b9_0d57 ∷ 0x3fd2_4244_065d_c22a ∷ 0x3fcf_f3f7_0b24_13c8 ∷ 0x3fbb_6366_098c_a33e
    ∷ 0x3fc6_d2d5_07f5_32b4 ∷ 0xbfc2_4244_065d_c22a
    ∷ 0xbfb2_4244_065d_c22a ∷ 0xbfd4_8a8c_8729_7a6f ∷ 0x3fd4_8a8c_8729_7a6f ∷ 0x3ffd_6a67_853f_00f0 ∷ 1 ∷ []
unfolding opened_here answer
nine = refl

-- a column without a number
none : answer (axis_of lanes []) ∷ answer (axis_of bare []) ∷ [] ≡ (0 ∷ 0 ∷ []) ∷ (0 ∷ 0 ∷ []) ∷ []
unfolding opened_here answer
none = refl

-- ---- a column cleared

-- the columns 0.5 0.3 0.4, then 0.1 0.2 -0, then 0.7 0.3 0.9; and the same with -(2 ^ -600) 0 below the diagonal of the
-- first
full : List ℕ
full =
    0x3fe0_0000_0000_0000 ∷ 0x3fd3_3333_3333_3333 ∷ 0x3fd9_9999_9999_999a ∷ 0x3fb9_9999_9999_999a
    ∷ 0x3fc9_9999_9999_999a
    ∷ 0x8000_0000_0000_0000 ∷ 0x3fe6_6666_6666_6666 ∷ 0x3fd3_3333_3333_3333 ∷ 0x3fec_cccc_cccc_cccd ∷ []

slight : List ℕ
slight =
    0x3fe0_0000_0000_0000 ∷ 0x9a70_0000_0000_0000 ∷ 0 ∷ 0x3fb9_9999_9999_999a ∷ 0x3fc9_9999_9999_999a
    ∷ 0x8000_0000_0000_0000 ∷ 0x3fe6_6666_6666_6666 ∷ 0x3fd3_3333_3333_3333 ∷ 0x3fec_cccc_cccc_cccd ∷ []

-- 1 to 6
work : List ℕ
work = 0x3ff0_0000_0000_0000 ∷ 0x4000_0000_0000_0000 ∷ 0x4008_0000_0000_0000 ∷ 0x4010_0000_0000_0000
    ∷ 0x4014_0000_0000_0000 ∷ 0x4018_0000_0000_0000 ∷ []

-- the norm, the matrix and the workspace
left : Cleared → List (List ℕ)
left r = (to_bits binary64 r.norm ∷ []) ∷ shown r.matrix ∷ shown r.work ∷ []

-- Column 0: both sides reflected, the rows first (the columns first would give other bits), and the axis in the first
-- places of the workspace. Column 1 has -0 alone below the diagonal: no reflection, and yet +0 stands there afterwards.
-- Squares that vanish: no reflection, and the norm is -0. Then k = 2, below which there is no row, and a workspace
-- shorter than 3: NaN, and nothing is done.
clearings : map left (clear_of 3 0 (numbers full) (numbers work) ∷ clear_of 3 1 (numbers full) (numbers work)
    ∷ clear_of 3 0 (numbers slight) (numbers work)
    ∷ clear_of 3 2 (numbers full) (numbers work)
    ∷ clear_of 3 0 (numbers full) (numbers (0x4008_0000_0000_0000 ∷ 0x4010_0000_0000_0000 ∷ [])) ∷ [])
    ≡ ((0xbfe0_0000_0000_0000 ∷ [])
    ∷ (0x3fe0_0000_0000_0000 ∷ 0x3fec_9f25_c5bf_edda ∷ 0x3fdc_9f25_c5bf_edda ∷ 0x3fe3_d70a_3d70_a3d9
    ∷ 0x3fe9_5810_624d_d2f6
    ∷ 0xbfc2_6e97_8d4f_df38 ∷ 0xbfd5_c28f_5c28_f5c0 ∷ 0xbfdc_6a7e_f9db_22d1 ∷ 0x3fd3_b645_a1ca_c082 ∷ [])
    ∷ (0x3fec_9f25_c5bf_edda ∷ 0x3fdc_9f25_c5bf_edda ∷ 0x4008_0000_0000_0000 ∷ 0x4010_0000_0000_0000
    ∷ 0x4014_0000_0000_0000 ∷ 0x4018_0000_0000_0000 ∷ []) ∷ [])
    ∷ ((0 ∷ [])
    ∷ (0x3fe0_0000_0000_0000 ∷ 0x3fd3_3333_3333_3333 ∷ 0x3fd9_9999_9999_999a ∷ 0x3fb9_9999_9999_999a
    ∷ 0x3fc9_9999_9999_999a
    ∷ 0 ∷ 0x3fe6_6666_6666_6666 ∷ 0x3fd3_3333_3333_3333 ∷ 0x3fec_cccc_cccc_cccd ∷ []) ∷ work ∷ [])
    ∷ ((0x8000_0000_0000_0000 ∷ []) ∷ slight ∷ work ∷ []) ∷ ((0x7ff8_0000_0000_0000 ∷ []) ∷ full ∷ work ∷ [])
    ∷ ((0x7ff8_0000_0000_0000 ∷ []) ∷ full ∷ (0x4008_0000_0000_0000 ∷ 0x4010_0000_0000_0000 ∷ []) ∷ []) ∷ []
unfolding opened_here full slight work left
clearings = refl

-- ---- Q assembled

-- below the diagonal the axis that clearing column 0 left, and 0.7, which is used as an axis though its length is not 1
axes : List ℕ
axes =
    0x3fe0_0000_0000_0000 ∷ 0x3fec_9f25_c5bf_edda ∷ 0x3fdc_9f25_c5bf_edda ∷ 0x3fb9_9999_9999_999a
    ∷ 0x3fc9_9999_9999_999a
    ∷ 0x3fe6_6666_6666_6666 ∷ 0x3fe6_6666_6666_6666 ∷ 0x3fd3_3333_3333_3333 ∷ 0x3fec_cccc_cccc_cccd ∷ []

-- what stood in Q is not read
old : List ℕ
old =
    0x4022_0000_0000_0000 ∷ 0x4022_0000_0000_0000 ∷ 0x4022_0000_0000_0000 ∷ 0x4022_0000_0000_0000
    ∷ 0x4022_0000_0000_0000
    ∷ 0x4022_0000_0000_0000 ∷ 0x4022_0000_0000_0000 ∷ 0x4022_0000_0000_0000 ∷ 0x4022_0000_0000_0000 ∷ []

-- The signs -0.5 -0: -0 has the sign -1. Then 0.5 +0, which turns both signs. Then a sign is missing: nothing is done.
qs : map shown (assembled 3 (numbers axes) (numbers (0xbfe0_0000_0000_0000 ∷ 0x8000_0000_0000_0000 ∷ []))
    (numbers old) ∷ assembled 3 (numbers axes) (numbers (0x3fe0_0000_0000_0000 ∷ 0 ∷ [])) (numbers old)
    ∷ assembled 3 (numbers axes) (numbers (0x3ff0_0000_0000_0000 ∷ [])) (numbers old) ∷ [])
    ≡ (0x3ff0_0000_0000_0000 ∷ 0 ∷ 0 ∷ 0 ∷ 0x3fe3_3333_3333_3336
    ∷ 0x3fe9_9999_9999_999b ∷ 0 ∷ 0xbf90_624d_d2f1_aa1a ∷ 0x3f88_9374_bc6a_7f26 ∷ [])
    ∷ (0x3ff0_0000_0000_0000 ∷ 0 ∷ 0 ∷ 0 ∷ 0xbfe3_3333_3333_3336
    ∷ 0xbfe9_9999_9999_999b ∷ 0 ∷ 0xbf90_624d_d2f1_aa1a ∷ 0x3f88_9374_bc6a_7f26 ∷ []) ∷ old ∷ []
unfolding opened_here axes old
qs = refl
