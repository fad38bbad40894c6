-- Worked cases, by evaluation: in which runs an axis vanished. The matrices are those of the run's own worked cases.
use Rattle.std.specs.Prelude.{◌≡◌, refl, ℕ, Bool, true, false, List, [], ◌∷◌, map}
use Rattle.std.specs.Float.Ieee.{of_bits}
use Rattle.std.specs.Float.{binary64}
use Rattle.loops.specs.First.{first_from}
use Rattle.loops.specs.Table.{table}
use Rattle.matrix.specs.Vectors.{zeros}
use Rattle.matrix.specs.Known.{numbers}
use Rattle.pass.specs.Setting.{setting}
use Rattle.schur.specs.Run.{opened_of}
use Rattle.schur.specs.Opened.{opened_schur, Case}
use Rattle.shape.specs.Vanished.{is_too_small, too_small, pass_to, axis_column, pass_vanished, turn_vanished}
use Rattle.shape.specs.Vanished.{run_vanished, vanished}

-- every definition that a case computes with
unfoldable pub opened_vanished : Unit {0}
unfolding opened_schur opened_of zeros table first_from is_too_small too_small pass_to axis_column pass_vanished
    turn_vanished run_vanished vanished
opened_vanished = tt

case : (n eps budget : ℕ) → (t : List ℕ) → Case
case n eps budget t = record { order = n; eps = eps; budget = budget; matrix = t }

of : Case → Bool
of c =
    let asked = setting c.order false (of_bits binary64 c.eps) in
    vanished asked c.budget (numbers c.matrix)

-- With the tolerance 0: 2 ^ -521 stands below the diagonal, and in the bulge of the first pass the squares vanish, but
-- not the numbers: 9 at 2 0. A column of the reduction that is too small, and no pass: what it leaves is overwritten.
-- Six passes of order 3; J, which has none.
known : map of (case 3 0 9 (0 ∷ 0x1f60_0000_0000_0000 ∷ 0 ∷ 0 ∷ 0x3ff0_0000_0000_0000 ∷ 0x3d00_0000_0000_0000 ∷ 0
    ∷ 0xbff0_0000_0000_0000
    ∷ 0x2050_0000_0000_0000 ∷ [])
    ∷ case 3 0x3cb0_0000_0000_0000 9 (0x3ff0_0000_0000_0000 ∷ 0x9a70_0000_0000_0000 ∷ 0 ∷ 0x3ff0_0000_0000_0000
    ∷ 0x4000_0000_0000_0000 ∷ 0 ∷ 0 ∷ 0
    ∷ 0x4008_0000_0000_0000 ∷ [])
    ∷ case 3 0x3cb0_0000_0000_0000 9 (0x3fe0_0000_0000_0000 ∷ 0x3fd3_3333_3333_3333 ∷ 0x3fd9_9999_9999_999a
    ∷ 0xbfec_cccc_cccc_cccd ∷ 0x3fc9_9999_9999_999a
    ∷ 0xbfe0_0000_0000_0000 ∷ 0x3fe6_6666_6666_6666 ∷ 0xbfd3_3333_3333_3333 ∷ 0x3fec_cccc_cccc_cccd ∷ [])
    ∷ case 2 0x3cb0_0000_0000_0000 1 (0 ∷ 0x3ff0_0000_0000_0000 ∷ 0xbff0_0000_0000_0000 ∷ 0 ∷ []) ∷ [])
    ≡ true ∷ false ∷ false ∷ false ∷ []
unfolding opened_vanished case of
known = refl
