-- Worked cases, by evaluation: patterns in, patterns out. The refusals, the places that they tell and what is left
-- behind are document 01's; T, Q and the count of what is accepted were computed by the plain model of the Rust,
-- oracle/src/model.rs. The letters are those of document 01's matrices.
use Rattle.std.specs.Prelude.{◌≡◌, refl, ℕ, ◌*◌, Bool, true, false, List, [], ◌∷◌, map, Float, Err, Ok}
use Rattle.std.specs.Float.Ieee.{of_bits}
use Rattle.std.specs.Float.{binary64}
use Rattle.loops.specs.Constants.{one}
use Rattle.loops.specs.Times.{times}
use Rattle.loops.specs.First.{first_from}
use Rattle.scalar.specs.Class.{is_finite}
use Rattle.matrix.specs.Known.{shown, numbers}
use Rattle.schur.specs.Opened.{opened_schur}
use Rattle.pass.specs.Setting.{setting}
use Rattle.pass.specs.Pair.{pair}
use Rattle.refusal.specs.Refusal.{told_of, refuse, refuse_at, ◌next◌}
use Rattle.refusal.specs.Checks.{order_checks, length_check, only_if, lent_lengths, matrix_lengths, entry_checks}
use Rattle.refusal.specs.Search.{first_row, first_col, first_place}
use Rattle.refusal.specs.Search.{not_finite, spoils, first_not_finite, first_spoiling}
use Rattle.decomposition.specs.Checks.{tolerance_fits, budget_fits, all_lengths, argument_checks, result_checks}
use Rattle.decomposition.specs.Decomposition.{Outcome, verdict, passes_of, nan_filled, settled, decided, judged}
use Rattle.decomposition.specs.Decomposition.{Decomposed, begun, entry_of, decomposition_of, placed_of}

-- every definition that a case computes with
unfoldable pub opened_decomposition : Unit {0}
unfolding opened_schur first_from is_finite told_of refuse refuse_at ◌next◌ first_row first_col first_place
    not_finite spoils first_not_finite first_spoiling
    order_checks length_check only_if lent_lengths matrix_lengths entry_checks
    tolerance_fits budget_fits all_lengths argument_checks result_checks verdict passes_of nan_filled settled decided
    judged begun entry_of
opened_decomposition = tt

-- 0 and the count; or the number of the refusal and its place
answer_of : Decomposed → List ℕ
answer_of (Ok passes) = 0 ∷ passes ∷ []
answer_of (Err r) = let x = told_of r in x.number ∷ x.row ∷ x.col ∷ []

-- what is answered; T, Q and the workspace
told : Outcome → List (List ℕ)
told o = answer_of o.answer ∷ shown o.pair.t ∷ shown o.pair.q ∷ shown o.work ∷ []

-- ---- one table: order, tolerance, budget and matrix; T, Q and the workspace are lent full of ones

pub record Case : Type 0 where
  pub order : ℕ
  pub eps : ℕ
  pub budget : ℕ
  pub matrix : List ℕ

case : ℕ → ℕ → ℕ → List ℕ → Case
case n eps budget m = record { order = n; eps = eps; budget = budget; matrix = m }

ones : ℕ → List Float
ones n = times (λ _ w. one ∷ w) n []

done : Bool → Case → List (List ℕ)
done wanted c =
    let n = c.order in
    told (decomposition_of (setting n wanted (of_bits binary64 c.eps)) c.budget (numbers c.matrix)
    (pair (ones (n * n)) (ones (n * n))) (ones (2 * n)))

-- 2 ^ -52
usual : ℕ
usual = 0x3cb0_0000_0000_0000

-- a block J, and a number beside it
j_matrix : List ℕ
j_matrix = 0 ∷ 0x3ff0_0000_0000_0000 ∷ 0xbff0_0000_0000_0000 ∷ 0 ∷ []

twice : List ℕ
twice = 0 ∷ 0x3ff0_0000_0000_0000 ∷ 0 ∷ 0 ∷ 0xbff0_0000_0000_0000 ∷ 0 ∷ 0 ∷ 0 ∷ 0 ∷ 0 ∷ 0 ∷ 0x3ff0_0000_0000_0000 ∷ 0
    ∷ 0 ∷ 0xbff0_0000_0000_0000 ∷ 0 ∷ []

-- ---- accepted: a, order 1; b, J, with the tolerance -0; m, a T of zeros

accepted : map (done true) (
    case 1 usual 1 (0x4014_0000_0000_0000 ∷ [])
    ∷ case 2 0x8000_0000_0000_0000 1 j_matrix
    ∷ case 2 usual 1000000 (0x3ff0_0000_0000_0000 ∷ 0x6bb0_0000_0000_0000 ∷ 0 ∷ 0x3ff0_0000_0000_0000 ∷ []) ∷ [])
    ≡ ((0 ∷ 0 ∷ []) ∷ (0x4014_0000_0000_0000 ∷ []) ∷ (0x3ff0_0000_0000_0000 ∷ []) ∷ (0 ∷ 0 ∷ []) ∷ [])
    ∷ ((0 ∷ 0 ∷ []) ∷ j_matrix ∷ (0x3ff0_0000_0000_0000 ∷ 0 ∷ 0 ∷ 0x3ff0_0000_0000_0000 ∷ []) ∷ (0 ∷ 0 ∷ 0 ∷ 0 ∷ []) ∷ [])
    ∷ ((0 ∷ 0 ∷ []) ∷ (0 ∷ 0 ∷ 0 ∷ 0 ∷ []) ∷ (0 ∷ 0 ∷ 0x8000_0000_0000_0000 ∷ 0 ∷ []) ∷ (0 ∷ 0 ∷ 0 ∷ 0 ∷ []) ∷ []) ∷ []
unfolding opened_decomposition case ones done usual j_matrix told answer_of
accepted = refl

-- ---- refused before the run: everything lent is as it was

pub record Fault : Type 0 where
  pub of : Case
  pub answer : List ℕ

fault : ℕ → ℕ → ℕ → List ℕ → List ℕ → Fault
fault n eps budget m answer = record { of = case n eps budget m; answer = answer }

kept : Fault → List (List ℕ)
kept f = let n = f.of.order in f.answer ∷ shown (ones (n * n)) ∷ shown (ones (n * n)) ∷ shown (ones (2 * n)) ∷ []

-- i: order 0; a matrix of another length, the tolerance and the budget outside too; j: tolerance 1, the budget outside
-- too; tolerance NaN; below 0; k: budget 0, an entry NaN; budget 1,000,001; h: NaN in row 2 of column 1, and an
-- infinity in row 0 of column 2
before : List Fault
before =
    fault 0 usual 1 [] (1 ∷ 0 ∷ 0 ∷ [])
    ∷ fault 2 0x7ff8_0000_0000_0000 0 (0 ∷ 0 ∷ 0 ∷ []) (3 ∷ 0 ∷ 0 ∷ [])
    ∷ fault 2 0x3ff0_0000_0000_0000 0 j_matrix (4 ∷ 0 ∷ 0 ∷ [])
    ∷ fault 2 0x7ff8_0000_0000_0000 1 j_matrix (4 ∷ 0 ∷ 0 ∷ [])
    ∷ fault 2 0x8000_0000_0000_0001 1 j_matrix (4 ∷ 0 ∷ 0 ∷ [])
    ∷ fault 2 usual 0 (0 ∷ 0 ∷ 0x7ff8_0000_0000_0000 ∷ 0 ∷ []) (5 ∷ 0 ∷ 0 ∷ [])
    ∷ fault 2 usual 1000001 j_matrix (5 ∷ 0 ∷ 0 ∷ [])
    ∷ fault 3 usual 1 (0 ∷ 0 ∷ 0 ∷ 0 ∷ 0 ∷ 0x7ff8_0000_0000_0000 ∷ 0xfff0_0000_0000_0000 ∷ 0 ∷ 0 ∷ []) (6 ∷ 2 ∷ 1 ∷ [])
    ∷ []

untouched : map (λ f. done true f.of) before ≡ map kept before
unfolding opened_decomposition before fault case ones done usual j_matrix told answer_of kept
untouched = refl

-- i: order 65, of which nothing is lent
large : told (decomposition_of (setting 65 true one) 0 [] (pair [] []) []) ≡ (2 ∷ 0 ∷ 0 ∷ []) ∷ [] ∷ [] ∷ [] ∷ []
unfolding opened_decomposition told answer_of
large = refl

-- ---- refused after the run: NaN throughout, and the workspace +0

-- f: J twice at budget 1; l: T is not finite; an axis whose squares vanish, tolerance 0
after : List Fault
after =
    fault 4 usual 1 twice (7 ∷ 0 ∷ 0 ∷ [])
    ∷ fault 2 usual 1 (0 ∷ 0x6bb0_0000_0000_0000 ∷ 0x6bb0_0000_0000_0000 ∷ 0 ∷ []) (8 ∷ 0 ∷ 0 ∷ [])
    ∷ fault 3 0 9 (0 ∷ 0x1f60_0000_0000_0000 ∷ 0 ∷ 0 ∷ 0x3ff0_0000_0000_0000 ∷ 0x3d00_0000_0000_0000 ∷ 0
    ∷ 0xbff0_0000_0000_0000 ∷ 0x2050_0000_0000_0000 ∷ [])
    (9 ∷ 2 ∷ 0 ∷ []) ∷ []

nans : ℕ → List ℕ
nans n = times (λ _ w. 0x7ff8_0000_0000_0000 ∷ w) n []

filled_up : Fault → List (List ℕ)
filled_up f = let n = f.of.order in f.answer ∷ nans (n * n) ∷ nans (n * n) ∷ times (λ _ w. 0 ∷ w) (2 * n) [] ∷ []

spoilt : map (λ f. done true f.of) after ≡ map filled_up after
unfolding opened_decomposition after fault case ones done usual twice told answer_of nans filled_up
spoilt = refl

-- Q not wanted: it is left alone
filled_alone : Fault → List (List ℕ)
filled_alone f =
    let n = f.of.order in f.answer ∷ nans (n * n) ∷ shown (ones (n * n)) ∷ times (λ _ w. 0 ∷ w) (2 * n) [] ∷ []

alone : map (λ f. done false f.of) after ≡ map filled_alone after
unfolding opened_decomposition after fault case ones done usual twice told answer_of nans filled_alone
alone = refl

-- ---- in place, where T holds the matrix: a workspace of another length, then the tolerance 1; and J, which is
-- accepted

placed : ℕ → ℕ → List ℕ → List (List ℕ)
placed budget room m = told (placed_of (setting 2 true one) budget (pair (numbers m) (ones 4)) (ones room))

at : map (λ room. placed 0 room j_matrix) (3 ∷ 4 ∷ []) ∷ (told
    (placed_of (setting 2 true (of_bits binary64 usual)) 1 (pair (numbers j_matrix) (ones 4)) (ones 4)) ∷ []) ∷ []
    ≡ (((3 ∷ 0 ∷ 0 ∷ []) ∷ j_matrix ∷ shown (ones 4) ∷ shown (ones 3) ∷ [])
    ∷ ((4 ∷ 0 ∷ 0 ∷ []) ∷ j_matrix ∷ shown (ones 4) ∷ shown (ones 4) ∷ []) ∷ [])
    ∷ (((0 ∷ 0 ∷ []) ∷ j_matrix ∷ (0x3ff0_0000_0000_0000 ∷ 0 ∷ 0 ∷ 0x3ff0_0000_0000_0000 ∷ []) ∷ (0 ∷ 0 ∷ 0 ∷ 0 ∷ []) ∷ [])
    ∷ []) ∷ []
unfolding opened_decomposition ones usual j_matrix told answer_of placed
at = refl
