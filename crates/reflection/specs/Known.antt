-- Worked cases, by evaluation: patterns in, patterns out. The answers were computed by the functions of the plain model
-- of the Rust, oracle/src/model.rs, on the same patterns. Where a place does not fit, the Rust has no answer, and a
-- case shows what is defined there. -0 is 0x8000_0000_0000_0000.
use Rattle.std.specs.Prelude.{◌≡◌, refl, ℕ, List, [], ◌∷◌, map, Float}
use Rattle.std.specs.Float.Ieee.{neg}
use Rattle.loops.specs.Constants.{one, minus_one}
use Rattle.matrix.specs.Sum.{lanes, bare}
use Rattle.matrix.specs.Known.{numbers, shown, opened}
use Rattle.reflection.specs.Reflected.{down, mirrored_columns, reflected, mirrored_rows, reflected_rows}

-- ---- axes: 0.6 0.8, and -0.1 -0.2 -0.2

short : List Float
short = numbers (0x3fe3_3333_3333_3333 ∷ 0x3fe9_9999_9999_999a ∷ [])

long : List Float
long = numbers (0xbfb9_9999_9999_999a ∷ 0xbfc9_9999_9999_999a ∷ 0xbfc9_9999_9999_999a ∷ [])

-- ---- matrices, column by column: 0.4 0.7 0.1, then -0 throughout, then +0 throughout; the same with columns for rows;
-- 3, 5, 7 and 9 times 2 ^ -1074

tall : List ℕ
tall =
    0x3fd9_9999_9999_999a ∷ 0x3fe6_6666_6666_6666 ∷ 0x3fb9_9999_9999_999a ∷ 0x8000_0000_0000_0000
    ∷ 0x8000_0000_0000_0000
    ∷ 0x8000_0000_0000_0000 ∷ 0 ∷ 0 ∷ 0 ∷ []

wide : List ℕ
wide =
    0x3fd9_9999_9999_999a ∷ 0x8000_0000_0000_0000 ∷ 0 ∷ 0x3fe6_6666_6666_6666 ∷ 0x8000_0000_0000_0000
    ∷ 0 ∷ 0x3fb9_9999_9999_999a ∷ 0x8000_0000_0000_0000 ∷ 0 ∷ []

tiny : List ℕ
tiny = 3 ∷ 5 ∷ 7 ∷ 9 ∷ []

-- every definition that a case computes with
unfoldable pub opened_here : Unit {0}
unfolding opened short long tall wide tiny down mirrored_columns reflected mirrored_rows reflected_rows neg
opened_here = tt

-- ---- columns

-- Rows 1 and 2 of columns 0 and 1. The axis times the column of -0 is -0 without a leading zero, and then the column
-- becomes +0; by `lanes` it stays -0.
short_columns : map shown (reflected lanes short one 3 1 0 2 (numbers tall)
    ∷ reflected bare short one 3 1 0 2 (numbers tall) ∷ [])
    ≡ (0x3fd9_9999_9999_999a ∷ 0x3fb9_9999_9999_9998 ∷ 0xbfe6_6666_6666_6667 ∷ 0x8000_0000_0000_0000
    ∷ 0x8000_0000_0000_0000
    ∷ 0x8000_0000_0000_0000 ∷ 0 ∷ 0 ∷ 0 ∷ [])
    ∷ (0x3fd9_9999_9999_999a ∷ 0x3fb9_9999_9999_9998 ∷ 0xbfe6_6666_6666_6667 ∷ 0x8000_0000_0000_0000 ∷ 0
    ∷ 0 ∷ 0 ∷ 0 ∷ 0 ∷ []) ∷ []
unfolding opened_here
short_columns = refl

-- All rows and columns with the sign -1. The axis is below 0, so it is the column of +0 that becomes -0 by `lanes`, and
-- +0 by `bare`. In column 0 each entry has other bits where the sum goes from the right or where something is fused.
long_columns : map shown (reflected lanes long minus_one 3 0 0 3 (numbers tall)
    ∷ reflected bare long minus_one 3 0 0 3 (numbers tall) ∷ [])
    ≡ (0xbfd7_0a3d_70a3_d70a ∷ 0xbfe3_d70a_3d70_a3d6 ∷ 0xbf94_7ae1_47ae_1478 ∷ 0 ∷ 0
    ∷ 0 ∷ 0x8000_0000_0000_0000 ∷ 0x8000_0000_0000_0000 ∷ 0x8000_0000_0000_0000 ∷ [])
    ∷ (0xbfd7_0a3d_70a3_d70a ∷ 0xbfe3_d70a_3d70_a3d6 ∷ 0xbf94_7ae1_47ae_1478 ∷ 0 ∷ 0
    ∷ 0 ∷ 0 ∷ 0 ∷ 0 ∷ []) ∷ []
unfolding opened_here
long_columns = refl

-- a row too many, a column too many, an order that the number of entries does not fit: unchanged
outside_columns : map shown (reflected lanes short one 3 2 0 3 (numbers tall)
    ∷ reflected bare short one 3 1 0 4 (numbers tall) ∷ reflected lanes short one 2 0 0 2 (numbers tall) ∷ [])
    ≡ tall ∷ tall ∷ tall ∷ []
unfolding opened_here
outside_columns = refl

-- ---- rows

-- Rows 0 and 1 of columns 1 and 2: row 1, of -0, becomes +0; with a leading zero it would stay -0.
-- Then all rows and columns with the sign -1: row 2, of +0, becomes +0; with a leading zero it would become -0.
rows : map shown (reflected_rows short one 3 2 1 (numbers wide) ∷ reflected_rows long minus_one 3 3 0 (numbers wide)
    ∷ [])
    ≡ (0x3fd9_9999_9999_999a ∷ 0x8000_0000_0000_0000 ∷ 0 ∷ 0x3fb9_9999_9999_9998 ∷ 0
    ∷ 0 ∷ 0xbfe6_6666_6666_6667 ∷ 0 ∷ 0 ∷ [])
    ∷ (0xbfd7_0a3d_70a3_d70a ∷ 0 ∷ 0 ∷ 0xbfe3_d70a_3d70_a3d6 ∷ 0
    ∷ 0 ∷ 0xbf94_7ae1_47ae_1478 ∷ 0 ∷ 0 ∷ []) ∷ []
unfolding opened_here
rows = refl

-- a column too many, a row too many, an order that the number of entries does not fit: unchanged
outside_rows : map shown (reflected_rows short one 3 2 2 (numbers wide)
    ∷ reflected_rows short one 3 4 1 (numbers wide) ∷ reflected_rows short one 2 2 0 (numbers wide) ∷ [])
    ≡ wide ∷ wide ∷ wide ∷ []
unfolding opened_here
outside_rows = refl

-- ---- the place of the factor -2: these products are rounded to multiples of 2 ^ -1074, and were they doubled after
-- the rounding, other bits came out

tinies : map shown (reflected lanes short one 2 0 0 2 (numbers tiny)
    ∷ reflected_rows short one 2 2 0 (numbers tiny) ∷ [])
    ≡ (0x8000_0000_0000_0004 ∷ 0x8000_0000_0000_0005 ∷ 0x8000_0000_0000_0006 ∷ 0x8000_0000_0000_0009 ∷ [])
    ∷ (0x8000_0000_0000_0007 ∷ 0x8000_0000_0000_0007 ∷ 0x8000_0000_0000_0006 ∷ 0x8000_0000_0000_0007 ∷ []) ∷ []
unfolding opened_here
tinies = refl
