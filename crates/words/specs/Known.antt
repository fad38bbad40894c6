-- Worked cases, by evaluation: bytes in, floats; floats, bytes out.
use Rattle.std.specs.Prelude.{◌≡◌, refl, ℕ, List, [], ◌∷◌, ◌++◌, true, false, Float, pos, Some}
use Rattle.std.specs.Float.{nan, inf, fin}
use Rattle.std.specs.Float.Ieee.{of_bits, to_bits}
use Rattle.loops.specs.First.{first_from}
use Rattle.loops.specs.Table.{table}
use Rattle.loops.specs.Until.{until}
use Rattle.scalar.specs.Class.{is_finite}
use Rattle.matrix.specs.Fits.{block_fits}
use Rattle.refusal.specs.Refusal.{at}
use Rattle.refusal.specs.Search.{first_row, first_col, first_place, not_finite, first_not_finite}
use Rattle.words.specs.Words.{le64, byte_of}
use Rattle.words.specs.Floats.{floats_of, bytes_of}

-- 1, -0, +infinity
three : List ℕ
three =
    0 ∷ 0 ∷ 0 ∷ 0 ∷ 0 ∷ 0 ∷ 0xf0 ∷ 0x3f
    ∷ 0 ∷ 0 ∷ 0 ∷ 0 ∷ 0 ∷ 0 ∷ 0 ∷ 0x80
    ∷ 0 ∷ 0 ∷ 0 ∷ 0 ∷ 0 ∷ 0 ∷ 0xf0 ∷ 0x7f ∷ []

-- NaN with its sign set and a payload, and the one that is written
payload : List ℕ
payload = 0xef ∷ 0xbe ∷ 0xad ∷ 0xde ∷ 0 ∷ 0 ∷ 0xf0 ∷ 0xff ∷ []

quiet : List ℕ
quiet = 0 ∷ 0 ∷ 0 ∷ 0 ∷ 0 ∷ 0 ∷ 0xf8 ∷ 0x7f ∷ []

floats : List Float
floats = fin false 1 (pos 0) ∷ fin true 0 (pos 0) ∷ inf false ∷ nan ∷ []

-- bytes past the last eight are not read
read : floats_of (three ++ payload ++ 1 ∷ 2 ∷ []) ≡ floats
unfolding three payload floats floats_of table le64 of_bits
read = refl

written : bytes_of floats ≡ three ++ quiet
unfolding three quiet floats bytes_of table byte_of to_bits
written = refl

-- of the matrix of order 2 that lies in them, column by column, the infinity is met first
met : first_not_finite 2 (floats_of (three ++ payload)) ≡ Some (at 0 1)
unfolding three payload floats_of table le64 of_bits first_not_finite block_fits first_place first_col first_row
    first_from until not_finite is_finite
met = refl
