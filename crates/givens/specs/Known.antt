-- Worked cases, by evaluation: patterns in, patterns out. Cosine and sine, and both turns, were computed by the
-- functions of the plain model of the Rust, oracle/src/model.rs. It has none for a rotation's norm, `cancel_y` and the
-- inverse: those answers were worked out in Rust by the formulas of docs/SUMS.md. Where a place does not fit, the Rust
-- has no answer, and a case shows what is defined there. -0 is 0x8000_0000_0000_0000, and NaN is 0x7ff8_0000_0000_0000.
use Rattle.std.specs.Prelude.{◌≡◌, refl, ℕ, List, [], ◌∷◌, map, Float, None, Option, Some}
use Rattle.std.specs.Float.{binary64}
use Rattle.std.specs.Float.Ieee.{of_bits, neg, sub, lt, eq}
use Rattle.scalar.specs.Sign.{to_exp_of}
use Rattle.matrix.specs.Known.{numbers, shown, opened}
use Rattle.givens.specs.declared.Rotation.{Rotation}
use Rattle.givens.specs.declared.Turn.{Turn}
use Rattle.givens.specs.Rotation.{rotation, identity_of, inverse_of, try_new}
use Rattle.givens.specs.Rotation.{new_of, cancel_y}
use Rattle.givens.specs.Rotated.{turned_rows, rotated, turned_columns, rotated_rows}

-- cosine, sine and norm; and no number where no rotation is made
turn_shown : Turn → List ℕ
turn_shown t = shown (t.rotation.c ∷ t.rotation.s ∷ t.norm ∷ [])

made : Option Turn → List ℕ
made (Some t) = turn_shown t
made None = []

-- made from two patterns
with : {A : Type 0} → (Float → Float → A) → ℕ → ℕ → A
with f x y = f (of_bits binary64 x) (of_bits binary64 y)

-- every definition that a case computes with
unfoldable pub opened_here : Unit {0}
unfolding opened turn_shown made with to_exp_of try_new new_of cancel_y
    turned_rows rotated turned_columns rotated_rows sub lt eq neg
opened_here = tt

-- ---- making one

-- 3 4, where products with 1 / 5 have other bits; -3 4; -0 1, whose cosine is -0; 1 -0, whose sine is -0; -1 -0, whose
-- sine is +0; 0 and 1.2 * 2 ^ -537, where the square is rounded to 2 ^ -1074 and the sine is 1.2; 0 0 and NaN 1, which
-- give the identity
news : map turn_shown (with new_of 0x4008_0000_0000_0000 0x4010_0000_0000_0000
    ∷ with new_of 0xc008_0000_0000_0000 0x4010_0000_0000_0000 ∷ with new_of 0x8000_0000_0000_0000 0x3ff0_0000_0000_0000
    ∷ with new_of 0x3ff0_0000_0000_0000 0x8000_0000_0000_0000 ∷ with new_of 0xbff0_0000_0000_0000 0x8000_0000_0000_0000
    ∷ with new_of 0 0x1e63_3333_3333_3333
    ∷ with new_of 0 0 ∷ with new_of 0x7ff8_0000_0000_0000 0x3ff0_0000_0000_0000 ∷ [])
    ≡ (0x3fe3_3333_3333_3333 ∷ 0x3fe9_9999_9999_999a ∷ 0x4014_0000_0000_0000 ∷ [])
    ∷ (0x3fe3_3333_3333_3333 ∷ 0xbfe9_9999_9999_999a ∷ 0xc014_0000_0000_0000 ∷ [])
    ∷ (0x8000_0000_0000_0000 ∷ 0x3ff0_0000_0000_0000 ∷ 0x3ff0_0000_0000_0000 ∷ [])
    ∷ (0x3ff0_0000_0000_0000 ∷ 0x8000_0000_0000_0000 ∷ 0x3ff0_0000_0000_0000 ∷ [])
    ∷ (0x3ff0_0000_0000_0000 ∷ 0 ∷ 0xbff0_0000_0000_0000 ∷ [])
    ∷ (0 ∷ 0x3ff3_3333_3333_3333 ∷ 0x1e60_0000_0000_0000 ∷ [])
    ∷ (0x3ff0_0000_0000_0000 ∷ 0 ∷ 0 ∷ []) ∷ (0x3ff0_0000_0000_0000 ∷ 0 ∷ 0 ∷ []) ∷ []
unfolding opened_here
news = refl

-- 3 4 with a tolerance of 5; of the number just below 5; of NaN. Then NaN 4 with a tolerance of 5.
tries : map made (with try_new 0x4008_0000_0000_0000 0x4010_0000_0000_0000 (of_bits binary64 0x4014_0000_0000_0000)
    ∷ with try_new 0x4008_0000_0000_0000 0x4010_0000_0000_0000 (of_bits binary64 0x4013_ffff_ffff_ffff)
    ∷ with try_new 0x4008_0000_0000_0000 0x4010_0000_0000_0000 (of_bits binary64 0x7ff8_0000_0000_0000)
    ∷ with try_new 0x7ff8_0000_0000_0000 0x4010_0000_0000_0000 (of_bits binary64 0x4014_0000_0000_0000) ∷ [])
    ≡ [] ∷ (0x3fe3_3333_3333_3333 ∷ 0x3fe9_9999_9999_999a ∷ 0x4014_0000_0000_0000 ∷ []) ∷ [] ∷ [] ∷ []
unfolding opened_here
tries = refl

-- 3 4; -3 4; -0 -2, whose cosine is -0; 0 and 2 ^ -600, which is divided by a length of 0; 3 -0 and 3 0, for which none
-- is needed
cancels : map made (with cancel_y 0x4008_0000_0000_0000 0x4010_0000_0000_0000
    ∷ with cancel_y 0xc008_0000_0000_0000 0x4010_0000_0000_0000
    ∷ with cancel_y 0x8000_0000_0000_0000 0xc000_0000_0000_0000
    ∷ with cancel_y 0 0x1a70_0000_0000_0000 ∷ with cancel_y 0x4008_0000_0000_0000 0x8000_0000_0000_0000
    ∷ with cancel_y 0x4008_0000_0000_0000 0 ∷ [])
    ≡ (0x3fe3_3333_3333_3333 ∷ 0xbfe9_9999_9999_999a ∷ 0x4014_0000_0000_0000 ∷ [])
    ∷ (0x3fe3_3333_3333_3333 ∷ 0x3fe9_9999_9999_999a ∷ 0xc014_0000_0000_0000 ∷ [])
    ∷ (0x8000_0000_0000_0000 ∷ 0x3ff0_0000_0000_0000 ∷ 0x4000_0000_0000_0000 ∷ [])
    ∷ (0x7ff8_0000_0000_0000 ∷ 0xfff0_0000_0000_0000 ∷ 0 ∷ []) ∷ [] ∷ [] ∷ []
unfolding opened_here
cancels = refl

-- the inverse of 0.6 0.8, and that of the identity, whose sine is -0
inverses : map (λ r. shown (r.c ∷ r.s ∷ [])) (inverse_of (with rotation 0x3fe3_3333_3333_3333 0x3fe9_9999_9999_999a)
    ∷ inverse_of identity_of ∷ [])
    ≡ (0x3fe3_3333_3333_3333 ∷ 0xbfe9_9999_9999_999a ∷ []) ∷ (0x3ff0_0000_0000_0000 ∷ 0x8000_0000_0000_0000 ∷ []) ∷ []
unfolding opened_here
inverses = refl

-- ---- turning by it

-- 0.6 0.8, the identity and its inverse
turns : List Rotation
turns = with rotation 0x3fe3_3333_3333_3333 0x3fe9_9999_9999_999a ∷ identity_of ∷ inverse_of identity_of ∷ []

-- the rows 9 9 9, then 9 0.1 -0, then 9 0.9 1
above : List ℕ
above =
    0x4022_0000_0000_0000 ∷ 0x4022_0000_0000_0000 ∷ 0x4022_0000_0000_0000 ∷ 0x4022_0000_0000_0000
    ∷ 0x3fb9_9999_9999_999a
    ∷ 0x3fec_cccc_cccc_cccd ∷ 0x4022_0000_0000_0000 ∷ 0x8000_0000_0000_0000 ∷ 0x3ff0_0000_0000_0000 ∷ []

-- Rows 1 and 2 of columns 1 and 2. In column 1 the first turn has other bits where something is fused. In column 2 the
-- identity keeps the -0, and its inverse makes +0 of it.
rows : map (λ r. shown (rotated r 3 1 1 3 (numbers above))) turns
    ≡ (0x4022_0000_0000_0000 ∷ 0x4022_0000_0000_0000 ∷ 0x4022_0000_0000_0000 ∷ 0x4022_0000_0000_0000
    ∷ 0xbfe5_1eb8_51eb_8520
    ∷ 0x3fe3_d70a_3d70_a3d8 ∷ 0x4022_0000_0000_0000 ∷ 0xbfe9_9999_9999_999a ∷ 0x3fe3_3333_3333_3333 ∷ [])
    ∷ (0x4022_0000_0000_0000 ∷ 0x4022_0000_0000_0000 ∷ 0x4022_0000_0000_0000 ∷ 0x4022_0000_0000_0000
    ∷ 0x3fb9_9999_9999_999a
    ∷ 0x3fec_cccc_cccc_cccd ∷ 0x4022_0000_0000_0000 ∷ 0x8000_0000_0000_0000 ∷ 0x3ff0_0000_0000_0000 ∷ [])
    ∷ (0x4022_0000_0000_0000 ∷ 0x4022_0000_0000_0000 ∷ 0x4022_0000_0000_0000 ∷ 0x4022_0000_0000_0000
    ∷ 0x3fb9_9999_9999_999a
    ∷ 0x3fec_cccc_cccc_cccd ∷ 0x4022_0000_0000_0000 ∷ 0 ∷ 0x3ff0_0000_0000_0000 ∷ []) ∷ []
unfolding opened_here turns above
rows = refl

-- the rows 9 0.9 0.1, then 9 -0 1, then 9 9 9
beside : List ℕ
beside =
    0x4022_0000_0000_0000 ∷ 0x4022_0000_0000_0000 ∷ 0x4022_0000_0000_0000 ∷ 0x3fec_cccc_cccc_cccd
    ∷ 0x8000_0000_0000_0000
    ∷ 0x4022_0000_0000_0000 ∷ 0x3fb9_9999_9999_999a ∷ 0x3ff0_0000_0000_0000 ∷ 0x4022_0000_0000_0000 ∷ []

-- Columns 1 and 2 of the first two rows. In row 0 the first turn has other bits where something is fused. In row 1 the
-- inverse of the identity keeps the -0, and the identity makes +0 of it.
columns : map (λ r. shown (rotated_rows r 3 1 2 (numbers beside))) turns
    ≡ (0x4022_0000_0000_0000 ∷ 0x4022_0000_0000_0000 ∷ 0x4022_0000_0000_0000 ∷ 0x3fe3_d70a_3d70_a3d8
    ∷ 0x3fe9_9999_9999_999a
    ∷ 0x4022_0000_0000_0000 ∷ 0xbfe5_1eb8_51eb_8520 ∷ 0x3fe3_3333_3333_3333 ∷ 0x4022_0000_0000_0000 ∷ [])
    ∷ (0x4022_0000_0000_0000 ∷ 0x4022_0000_0000_0000 ∷ 0x4022_0000_0000_0000 ∷ 0x3fec_cccc_cccc_cccd ∷ 0
    ∷ 0x4022_0000_0000_0000 ∷ 0x3fb9_9999_9999_999a ∷ 0x3ff0_0000_0000_0000 ∷ 0x4022_0000_0000_0000 ∷ [])
    ∷ (0x4022_0000_0000_0000 ∷ 0x4022_0000_0000_0000 ∷ 0x4022_0000_0000_0000 ∷ 0x3fec_cccc_cccc_cccd
    ∷ 0x8000_0000_0000_0000
    ∷ 0x4022_0000_0000_0000 ∷ 0x3fb9_9999_9999_999a ∷ 0x3ff0_0000_0000_0000 ∷ 0x4022_0000_0000_0000 ∷ []) ∷ []
unfolding opened_here turns beside
columns = refl

-- a row, a column, a column, a row too many: unchanged
outside : map (λ r. shown (rotated r 3 2 1 3 (numbers above))) turns
    ∷ map (λ r. shown (rotated r 3 1 1 4 (numbers above))) turns
    ∷ map (λ r. shown (rotated_rows r 3 2 2 (numbers above))) turns
    ∷ map (λ r. shown (rotated_rows r 3 1 4 (numbers above))) turns ∷ []
    ≡ (above ∷ above ∷ above ∷ []) ∷ (above ∷ above ∷ above ∷ []) ∷ (above ∷ above ∷ above ∷ [])
    ∷ (above ∷ above ∷ above ∷ []) ∷ []
unfolding opened_here turns above
outside = refl
