-- Worked cases of the run, by evaluation: patterns in, patterns out. T, Q and the count were computed by the plain
-- model of the Rust, oracle/src/model.rs. a to g and m are matrices with known outcomes of document 01.
use Rattle.schur.specs.Run.{Ran}
use Rattle.std.specs.Prelude.{◌≡◌, refl, ℕ, ◌*◌, Bool, true, false, List, [], ◌∷◌, map, Err, Ok}
use Rattle.std.specs.Float.Ieee.{of_bits}
use Rattle.std.specs.Float.{binary64}
use Rattle.loops.specs.Constants.{one, epsilon}
use Rattle.loops.specs.Times.{times}
use Rattle.matrix.specs.Known.{numbers, shown}
use Rattle.pass.specs.Setting.{setting}
use Rattle.pass.specs.Pair.{pair}
use Rattle.schur.specs.declared.run.Stopped.TheVariants.{BudgetReached, Unfit}
use Rattle.schur.specs.Run.{Left, run_of}
use Rattle.schur.specs.Opened.{opened_schur, Case}

-- 1 and the count; 2 with the window's start and end; 3 where something does not fit
answer_of : Ran → List ℕ
answer_of (Ok passes) = 1 ∷ passes ∷ []
answer_of (Err (BudgetReached w)) = 2 ∷ w.start ∷ w.end ∷ []
answer_of (Err Unfit) = 3 ∷ []

-- what the run answers, T and Q
told : Left → List (List ℕ)
told r = answer_of r.answer ∷ shown r.pair.t ∷ shown r.pair.q ∷ []

-- ---- one table: order, tolerance, budget and matrix; then what comes of it

case : ℕ → ℕ → ℕ → List ℕ → Case
case n eps budget t = record { order = n; eps = eps; budget = budget; matrix = t }

-- the workspace is full of ones
ran : Bool → List ℕ → Case → Left
ran wanted q c = run_of (setting c.order wanted (of_bits binary64 c.eps)) c.budget
    (pair (numbers c.matrix) (numbers q)) (times (λ _ w. one ∷ w) (2 * c.order) [])

-- with Q, in which something stands, and without
with_q : Case → List (List ℕ)
with_q c = told (ran true c.matrix c)

without_q : Case → List (List ℕ)
without_q c = told (ran false [] c)

-- 2 ^ -52
usual : ℕ
usual = 0x3cb0_0000_0000_0000

-- a: order 1; b: J, which stands; rows (1 2), (3 4): rotated; -0 below the diagonal stands; m;
-- c: zeros; d: diagonal 1, 2, 4; e: J, then 2; f: J twice, at budget 2; g: diagonal 1, 2, then J, at budget 2;
-- order 3, with a block that stands;
-- order 4;
-- an axis whose squares vanish, tolerance 0: row 2 of column 0 is not zero;
-- a column too small to see, below 0: rows of Q are multiplied by -1
cases : List Case
cases =
    case 1 usual 1 (0x4014_0000_0000_0000 ∷ [])
    ∷ case 2 usual 1 (0 ∷ 0x3ff0_0000_0000_0000 ∷ 0xbff0_0000_0000_0000 ∷ 0 ∷ [])
    ∷ case 2 usual 1 (0x3ff0_0000_0000_0000 ∷ 0x4008_0000_0000_0000 ∷ 0x4000_0000_0000_0000 ∷ 0x4010_0000_0000_0000
    ∷ [])
    ∷ case 2 usual 1 (0x3fd3_3333_3333_3333 ∷ 0x8000_0000_0000_0000 ∷ 0xbfec_cccc_cccc_cccd ∷ 0x3fb9_9999_9999_999a
    ∷ [])
    ∷ case 2 usual 1 (0x3ff0_0000_0000_0000 ∷ 0x6bb0_0000_0000_0000 ∷ 0 ∷ 0x3ff0_0000_0000_0000 ∷ [])
    ∷ case 3 usual 1 (0 ∷ 0 ∷ 0 ∷ 0 ∷ 0 ∷ 0 ∷ 0 ∷ 0 ∷ 0 ∷ [])
    ∷ case 3 usual 1 (0x3ff0_0000_0000_0000 ∷ 0 ∷ 0 ∷ 0 ∷ 0x4000_0000_0000_0000 ∷ 0 ∷ 0 ∷ 0 ∷ 0x4010_0000_0000_0000
    ∷ [])
    ∷ case 3 usual 1 (0 ∷ 0x3ff0_0000_0000_0000 ∷ 0 ∷ 0xbff0_0000_0000_0000 ∷ 0 ∷ 0 ∷ 0 ∷ 0 ∷ 0x4000_0000_0000_0000
    ∷ [])
    ∷ case 4 usual 2 (0 ∷ 0x3ff0_0000_0000_0000 ∷ 0 ∷ 0 ∷ 0xbff0_0000_0000_0000 ∷ 0 ∷ 0 ∷ 0 ∷ 0 ∷ 0 ∷ 0
    ∷ 0x3ff0_0000_0000_0000 ∷ 0 ∷ 0
    ∷ 0xbff0_0000_0000_0000 ∷ 0 ∷ [])
    ∷ case 4 usual 2 (0x3ff0_0000_0000_0000 ∷ 0 ∷ 0 ∷ 0 ∷ 0 ∷ 0x4000_0000_0000_0000 ∷ 0 ∷ 0 ∷ 0 ∷ 0 ∷ 0
    ∷ 0x3ff0_0000_0000_0000 ∷ 0 ∷ 0
    ∷ 0xbff0_0000_0000_0000 ∷ 0 ∷ [])
    ∷ case 3 usual 9 (0x3fe0_0000_0000_0000 ∷ 0x3fd3_3333_3333_3333 ∷ 0x3fd9_9999_9999_999a ∷ 0xbfec_cccc_cccc_cccd
    ∷ 0x3fc9_9999_9999_999a
    ∷ 0xbfe0_0000_0000_0000 ∷ 0x3fe6_6666_6666_6666 ∷ 0xbfd3_3333_3333_3333 ∷ 0x3fec_cccc_cccc_cccd ∷ [])
    ∷ case 4 usual 9 (0x3fe0_0000_0000_0000 ∷ 0x3fd3_3333_3333_3333 ∷ 0x3fd9_9999_9999_999a ∷ 0xbfc9_9999_9999_999a
    ∷ 0x3fb9_9999_9999_999a
    ∷ 0x3fc9_9999_9999_999a ∷ 0x8000_0000_0000_0000 ∷ 0x3fe6_6666_6666_6666 ∷ 0x3fe6_6666_6666_6666
    ∷ 0x3fd3_3333_3333_3333 ∷ 0x3fec_cccc_cccc_cccd
    ∷ 0x3fb9_9999_9999_999a ∷ 0xbfe3_3333_3333_3333 ∷ 0x3fe9_9999_9999_999a ∷ 0x3fd0_0000_0000_0000
    ∷ 0x3fd6_6666_6666_6666 ∷ [])
    ∷ case 3 0 9 (0 ∷ 0x1f60_0000_0000_0000 ∷ 0 ∷ 0 ∷ 0x3ff0_0000_0000_0000 ∷ 0x3d00_0000_0000_0000 ∷ 0
    ∷ 0xbff0_0000_0000_0000
    ∷ 0x2050_0000_0000_0000 ∷ [])
    ∷ case 3 usual 9 (0x3ff0_0000_0000_0000 ∷ 0x9a70_0000_0000_0000 ∷ 0 ∷ 0x3ff0_0000_0000_0000 ∷ 0x4000_0000_0000_0000
    ∷ 0 ∷ 0 ∷ 0
    ∷ 0x4008_0000_0000_0000 ∷ []) ∷ []

-- the count, T and Q
ended : ℕ → List ℕ → List ℕ → List (List ℕ)
ended passes t q = (1 ∷ passes ∷ []) ∷ t ∷ q ∷ []

outcomes : (ℕ → List ℕ → List ℕ → List (List ℕ)) → List (List (List ℕ))
outcomes end =
    end 0 (0x4014_0000_0000_0000 ∷ [])
    (0x3ff0_0000_0000_0000 ∷ [])
    ∷ end 0 (0 ∷ 0x3ff0_0000_0000_0000 ∷ 0xbff0_0000_0000_0000 ∷ 0 ∷ [])
    (0x3ff0_0000_0000_0000 ∷ 0 ∷ 0 ∷ 0x3ff0_0000_0000_0000 ∷ [])
    ∷ end 0 (0xbfd7_d375_0b16_877f ∷ 0 ∷ 0xbfef_ffff_ffff_fffc ∷ 0x4015_7d37_50b1_6878 ∷ [])
    (0x3fea_62d5_cdb9_9a6a ∷ 0xbfe2_1ac4_5ee5_d83f ∷ 0x3fe2_1ac4_5ee5_d83f ∷ 0x3fea_62d5_cdb9_9a6a ∷ [])
    ∷ end 0 (0x3fd3_3333_3333_3333 ∷ 0x8000_0000_0000_0000 ∷ 0xbfec_cccc_cccc_cccd ∷ 0x3fb9_9999_9999_999a ∷ [])
    (0x3ff0_0000_0000_0000 ∷ 0 ∷ 0 ∷ 0x3ff0_0000_0000_0000 ∷ [])
    ∷ end 0 (0 ∷ 0 ∷ 0 ∷ 0 ∷ [])
    (0 ∷ 0 ∷ 0x8000_0000_0000_0000 ∷ 0 ∷ [])
    ∷ end 0 (0 ∷ 0 ∷ 0 ∷ 0 ∷ 0 ∷ 0 ∷ 0 ∷ 0 ∷ 0 ∷ [])
    (0x3ff0_0000_0000_0000 ∷ 0 ∷ 0 ∷ 0 ∷ 0x3ff0_0000_0000_0000 ∷ 0 ∷ 0 ∷ 0 ∷ 0x3ff0_0000_0000_0000 ∷ [])
    ∷ end 0 (0x3ff0_0000_0000_0000 ∷ 0 ∷ 0 ∷ 0 ∷ 0x4000_0000_0000_0000 ∷ 0 ∷ 0 ∷ 0 ∷ 0x4010_0000_0000_0000 ∷ [])
    (0x3ff0_0000_0000_0000 ∷ 0 ∷ 0 ∷ 0 ∷ 0x3ff0_0000_0000_0000 ∷ 0 ∷ 0 ∷ 0 ∷ 0x3ff0_0000_0000_0000 ∷ [])
    ∷ end 0 (0 ∷ 0x3ff0_0000_0000_0000 ∷ 0 ∷ 0xbff0_0000_0000_0000 ∷ 0 ∷ 0 ∷ 0x8000_0000_0000_0000 ∷ 0
    ∷ 0x4000_0000_0000_0000 ∷ [])
    (0x3ff0_0000_0000_0000 ∷ 0 ∷ 0 ∷ 0 ∷ 0x3ff0_0000_0000_0000 ∷ 0 ∷ 0 ∷ 0 ∷ 0xbff0_0000_0000_0000 ∷ [])
    ∷ end 1 (0 ∷ 0x3ff0_0000_0000_0000 ∷ 0 ∷ 0 ∷ 0xbff0_0000_0000_0000 ∷ 0 ∷ 0 ∷ 0 ∷ 0x8000_0000_0000_0000 ∷ 0 ∷ 0
    ∷ 0x3ff0_0000_0000_0000 ∷ 0 ∷ 0
    ∷ 0xbff0_0000_0000_0000 ∷ 0 ∷ [])
    (0x3ff0_0000_0000_0000 ∷ 0 ∷ 0 ∷ 0 ∷ 0 ∷ 0x3ff0_0000_0000_0000 ∷ 0 ∷ 0 ∷ 0 ∷ 0 ∷ 0xbff0_0000_0000_0000 ∷ 0 ∷ 0 ∷ 0
    ∷ 0 ∷ 0xbff0_0000_0000_0000
    ∷ [])
    ∷ end 1 (0x3ff0_0000_0000_0000 ∷ 0 ∷ 0 ∷ 0 ∷ 0 ∷ 0x4000_0000_0000_0000 ∷ 0 ∷ 0 ∷ 0 ∷ 0 ∷ 0 ∷ 0x3ff0_0000_0000_0000
    ∷ 0 ∷ 0 ∷ 0xbff0_0000_0000_0000
    ∷ 0 ∷ [])
    (0x3ff0_0000_0000_0000 ∷ 0 ∷ 0 ∷ 0 ∷ 0 ∷ 0x3ff0_0000_0000_0000 ∷ 0 ∷ 0 ∷ 0 ∷ 0 ∷ 0x3ff0_0000_0000_0000 ∷ 0 ∷ 0 ∷ 0
    ∷ 0 ∷ 0x3ff0_0000_0000_0000
    ∷ [])
    ∷ end 6 (0x3fcb_6f8a_15c5_31d8 ∷ 0x3fd2_27b9_5551_c954 ∷ 0 ∷ 0xbfdf_04de_f1e6_d501 ∷ 0x3fbb_1b2a_4e19_489b ∷ 0
    ∷ 0xbfee_a6d9_88b4_974b
    ∷ 0x3fcf_e7ec_586b_2264 ∷ 0x3ff4_79f5_b1ff_5ed9 ∷ [])
    (0xbfe9_3e95_0ffb_8ec1 ∷ 0xbfe2_aa8b_4fdf_88b0 ∷ 0xbfc8_c072_59cc_1de2 ∷ 0x3fe2_87e2_8d9d_a76c
    ∷ 0xbfe3_35a4_85b8_6959 ∷ 0xbfe1_a6fb_b8e3_727c
    ∷ 0x3fca_5444_463e_09d5 ∷ 0xbfe1_8251_46e4_d3e2 ∷ 0x3fe9_f6ab_f253_61f4 ∷ [])
    ∷ end 6 (0xbfe4_9157_2618_1198 ∷ 0 ∷ 0 ∷ 0 ∷ 0xbfcb_f09a_3d4e_dc10 ∷ 0x3ff4_4a7e_d397_c6cf ∷ 0 ∷ 0
    ∷ 0x3fd1_4133_c576_16f3 ∷ 0x3fc8_a2f6_7c5c_8c46
    ∷ 0x3ff1_5398_0e8a_35ad ∷ 0 ∷ 0x3fbf_746c_b4bd_7cf5 ∷ 0xbfcd_5f40_cc70_ba9b ∷ 0xbfdb_b3fa_fbf7_6bff
    ∷ 0x3fce_ee3f_20e9_fcb0 ∷ [])
    (0x3fdf_0845_b97c_48fe ∷ 0xbfe4_34a5_2da5_18aa ∷ 0xbfcb_cea7_9a93_f8bc ∷ 0x3fe2_12d3_f357_d9aa
    ∷ 0x3fd5_4390_6135_b0a0 ∷ 0x3fe0_aada_b668_7a5d
    ∷ 0x3fe2_caad_c5c7_d337 ∷ 0x3fe0_bbef_18c3_080b ∷ 0x3fe5_d1e2_6971_a475 ∷ 0xbfc4_29bc_5dfe_51e5
    ∷ 0x3fd4_9895_2e6b_71e7 ∷ 0xbfe4_6820_9e55_c15c
    ∷ 0x3fdb_dd3e_ba99_ae02 ∷ 0x3fe1_ada1_a353_640d ∷ 0xbfe6_b9fd_3d33_25df ∷ 0xbf9e_08a5_478b_9472 ∷ [])
    ∷ end 1 (0 ∷ 0 ∷ 0x8000_8000_0000_0000 ∷ 0x9c70_0000_0000_0000 ∷ 0x3fef_ffff_ffff_ffc0 ∷ 0 ∷ 0x1980_0000_0000_0020
    ∷ 0xbff0_0000_0000_0020
    ∷ 0x3d00_0000_0000_0020 ∷ [])
    (0xbff0_0000_0000_0000 ∷ 0 ∷ 0x9f60_0000_0000_0000 ∷ 0x9c70_0000_0000_0020 ∷ 0x3ff0_0000_0000_0000
    ∷ 0x3d00_0000_0000_0020 ∷ 0x9f60_0000_0000_0000
    ∷ 0xbd00_0000_0000_0020 ∷ 0x3ff0_0000_0000_0000 ∷ [])
    ∷ end 0 (0x3ff0_0000_0000_0000 ∷ 0 ∷ 0 ∷ 0x3ff0_0000_0000_0000 ∷ 0x4000_0000_0000_0000 ∷ 0 ∷ 0 ∷ 0
    ∷ 0x4008_0000_0000_0000 ∷ [])
    (0x3ff0_0000_0000_0000 ∷ 0x8000_0000_0000_0000 ∷ 0 ∷ 0 ∷ 0xbff0_0000_0000_0000 ∷ 0x8000_0000_0000_0000 ∷ 0
    ∷ 0x8000_0000_0000_0000
    ∷ 0xbff0_0000_0000_0000 ∷ []) ∷ []

known : map with_q cases ≡ outcomes ended
unfolding opened_schur cases outcomes case ran with_q usual told answer_of ended
known = refl

bare : map without_q cases ≡ outcomes (λ passes t q. ended passes t [])
unfolding opened_schur cases outcomes case ran without_q usual told answer_of ended
bare = refl

-- ---- the budget reached: f at budget 1, with the first block open; g at budget 1, though the window has closed

reached : map (λ c. answer_of (ran false [] c).answer) (
    case 4 usual 1 (0 ∷ 0x3ff0_0000_0000_0000 ∷ 0 ∷ 0 ∷ 0xbff0_0000_0000_0000 ∷ 0 ∷ 0 ∷ 0 ∷ 0 ∷ 0 ∷ 0
    ∷ 0x3ff0_0000_0000_0000 ∷ 0 ∷ 0
    ∷ 0xbff0_0000_0000_0000 ∷ 0 ∷ [])
    ∷ case 4 usual 1 (0x3ff0_0000_0000_0000 ∷ 0 ∷ 0 ∷ 0 ∷ 0 ∷ 0x4000_0000_0000_0000 ∷ 0 ∷ 0 ∷ 0 ∷ 0 ∷ 0
    ∷ 0x3ff0_0000_0000_0000 ∷ 0 ∷ 0
    ∷ 0xbff0_0000_0000_0000 ∷ 0 ∷ []) ∷ [])
    ≡ (2 ∷ 0 ∷ 1 ∷ []) ∷ (2 ∷ 0 ∷ 0 ∷ []) ∷ []
unfolding opened_schur case ran usual answer_of
reached = refl

-- ---- what does not fit: orders 0 and 65, order 2 of a T with one entry; then a workspace of another length

misfits : map (λ n. answer_of (run_of (setting n true epsilon) 9 (pair (one ∷ []) []) (one ∷ one ∷ [])).answer)
    (0 ∷ 65 ∷ 2 ∷ []) ∷ (answer_of (run_of (setting 1 false epsilon) 9 (pair (one ∷ []) []) (one ∷ [])).answer ∷ []) ∷ []
    ≡ ((3 ∷ []) ∷ (3 ∷ []) ∷ (3 ∷ []) ∷ []) ∷ ((3 ∷ []) ∷ []) ∷ []
unfolding opened_schur answer_of
misfits = refl
