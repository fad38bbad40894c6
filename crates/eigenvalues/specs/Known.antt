-- Worked cases, by evaluation: patterns in, patterns out. The eigenvalues were computed by the plain model of the Rust,
-- oracle/src/model.rs; the refusals and the places that they tell are document 01's, which the Rust does not have. b,
-- d, h, i and n are matrices with known outcomes of document 01.
use Rattle.std.specs.Prelude.{◌≡◌, refl, ℕ, List, [], ◌∷◌, map, Float, Err, Ok}
use Rattle.std.specs.Float.Ieee.{sub, neg, eq}
use Rattle.loops.specs.Constants.{one}
use Rattle.loops.specs.Times.{times}
use Rattle.loops.specs.Until.{until}
use Rattle.loops.specs.First.{first_from}
use Rattle.loops.specs.Table.{table}
use Rattle.scalar.specs.Class.{is_finite}
use Rattle.matrix.specs.Known.{opened, shown, numbers}
use Rattle.pass.specs.Block.{block_at, discriminant}
use Rattle.refusal.specs.Refusal.{Checked, told_of, refuse, refuse_at, ◌next◌, if_passed}
use Rattle.refusal.specs.Search.{first_on_diagonal, not_finite, spoils, first_not_finite}
use Rattle.refusal.specs.Search.{first_row, first_col, first_place, first_spoiling}
use Rattle.refusal.specs.Checks.{order_checks, length_check, entry_checks, given_checks}
use Rattle.eigenvalues.specs.Blocks.{paired, pair_of, answer_at, not_complex, upper, lower, follows, answer_before}
use Rattle.eigenvalues.specs.Blocks.{eigenvalue_at}
use Rattle.eigenvalues.specs.Readers.{Read, ComplexRead, shape_check, readable, finite_readable, any_paired}
use Rattle.eigenvalues.specs.Readers.{pair_check, real_checks, diagonal, left_by, real_lengths, real_read}
use Rattle.eigenvalues.specs.Readers.{real_finite_of, diagonal_if_real, not_finite_at, block_checks, complex_checks}
use Rattle.eigenvalues.specs.Readers.{complex_lengths, complex_read, complex_finite_of}

-- every definition that a case computes with
unfoldable pub opened_readers : Unit {0}
unfolding opened until first_from table is_finite block_at discriminant told_of refuse refuse_at ◌next◌ if_passed
    first_row first_col first_place first_on_diagonal not_finite spoils first_not_finite first_spoiling order_checks
    length_check entry_checks given_checks
    paired pair_of answer_at not_complex upper lower follows answer_before eigenvalue_at shape_check readable
    finite_readable any_paired pair_check real_checks diagonal left_by real_lengths real_read
    real_finite_of diagonal_if_real not_finite_at block_checks complex_checks complex_lengths complex_read
    complex_finite_of sub neg eq
opened_readers = tt

-- 0; or the number of the refusal and its place
unfoldable pub answer_of : Checked → List ℕ
answer_of (Ok u) = 0 ∷ []
answer_of (Err r) = let x = told_of r in x.number ∷ x.row ∷ x.col ∷ []

told : Read → List (List ℕ)
told r = answer_of r.answer ∷ shown r.values ∷ []

complex_told : ComplexRead → List (List ℕ)
complex_told r = answer_of r.answer ∷ shown r.re ∷ shown r.im ∷ []

-- ---- T by its order; the lists that are lent are full of ones

pub record Case : Type 0 where
  pub order : ℕ
  pub matrix : List ℕ

unfoldable pub case : ℕ → List ℕ → Case
case n t = record { order = n; matrix = t }

unfoldable pub lent : ℕ → List Float
lent n = times (λ _ w. one ∷ w) n []

real : Case → List (List ℕ)
real c = told (real_read c.order (numbers c.matrix) (lent c.order))

complex : Case → List (List ℕ)
complex c = complex_told (complex_read c.order (numbers c.matrix) (lent c.order) (lent c.order))

-- ---- real alone: order 1, entry 5; d: diagonal 1, 2, 4; order 3, where -0 stands below the diagonal twice, and last
-- on it

triangular : List Case
triangular =
    case 1 (0x4014_0000_0000_0000 ∷ [])
    ∷ case 3 (0x3ff0_0000_0000_0000 ∷ 0 ∷ 0 ∷ 0 ∷ 0x4000_0000_0000_0000 ∷ 0 ∷ 0 ∷ 0 ∷ 0x4010_0000_0000_0000 ∷ [])
    ∷ case 3 (0x3fd3_3333_3333_3333 ∷ 0x8000_0000_0000_0000 ∷ 0 ∷ 0xbfec_cccc_cccc_cccd ∷ 0x3fb9_9999_9999_999a
    ∷ 0x8000_0000_0000_0000
    ∷ 0x3fe6_6666_6666_6666 ∷ 0x3fc9_9999_9999_999a ∷ 0x8000_0000_0000_0000 ∷ []) ∷ []

reals : map real triangular
    ≡ ((0 ∷ []) ∷ (0x4014_0000_0000_0000 ∷ []) ∷ [])
    ∷ ((0 ∷ []) ∷ (0x3ff0_0000_0000_0000 ∷ 0x4000_0000_0000_0000 ∷ 0x4010_0000_0000_0000 ∷ []) ∷ [])
    ∷ ((0 ∷ []) ∷ (0x3fd3_3333_3333_3333 ∷ 0x3fb9_9999_9999_999a ∷ 0x8000_0000_0000_0000 ∷ []) ∷ []) ∷ []
unfolding opened_readers triangular case lent real told answer_of
reals = refl

-- entries and shape are right here, and need no look
unlooked : Case → List (List ℕ)
unlooked c = told (diagonal_if_real c.order (numbers c.matrix) (lent c.order))

diagonals : map unlooked triangular ≡ map real triangular
unfolding opened_readers triangular case lent unlooked real told answer_of
diagonals = refl

-- nor do the entries alone
finite : Case → List (List ℕ)
finite c = told (real_finite_of c.order (numbers c.matrix) (lent c.order))

complex_finite : Case → List (List ℕ)
complex_finite c = complex_told (complex_finite_of c.order (numbers c.matrix) (lent c.order) (lent c.order))

finites : map finite triangular ≡ map real triangular
unfolding opened_readers triangular case lent finite real told answer_of
finites = refl

-- the complex reader's are the same, with +0 beside each
singles : map complex triangular
    ≡ ((0 ∷ []) ∷ (0x4014_0000_0000_0000 ∷ []) ∷ (0 ∷ []) ∷ [])
    ∷ ((0 ∷ []) ∷ (0x3ff0_0000_0000_0000 ∷ 0x4000_0000_0000_0000 ∷ 0x4010_0000_0000_0000 ∷ []) ∷ (0 ∷ 0 ∷ 0 ∷ []) ∷ [])
    ∷ ((0 ∷ []) ∷ (0x3fd3_3333_3333_3333 ∷ 0x3fb9_9999_9999_999a ∷ 0x8000_0000_0000_0000 ∷ []) ∷ (0 ∷ 0 ∷ 0 ∷ []) ∷ [])
    ∷ []
unfolding opened_readers triangular case lent complex complex_told answer_of
singles = refl

-- ---- blocks of two: b, J; order 3, a block and a number behind it, and before it; order 4, two blocks; half the trace
-- -0; the discriminant +0

blocks : List Case
blocks =
    case 2 (0 ∷ 0x3ff0_0000_0000_0000 ∷ 0xbff0_0000_0000_0000 ∷ 0 ∷ [])
    ∷ case 3 (0x3fe0_0000_0000_0000 ∷ 0x3fd3_3333_3333_3333 ∷ 0 ∷ 0xbfec_cccc_cccc_cccd ∷ 0x3fc9_9999_9999_999a ∷ 0
    ∷ 0x3fe6_6666_6666_6666 ∷ 0xbfd3_3333_3333_3333 ∷ 0x3fec_cccc_cccc_cccd ∷ [])
    ∷ case 3 (0x3fec_cccc_cccc_cccd ∷ 0 ∷ 0 ∷ 0x3fe6_6666_6666_6666 ∷ 0x3fe0_0000_0000_0000 ∷ 0x3fd3_3333_3333_3333
    ∷ 0xbfd3_3333_3333_3333 ∷ 0xbfec_cccc_cccc_cccd ∷ 0x3fc9_9999_9999_999a ∷ [])
    ∷ case 4 (0x3fe0_0000_0000_0000 ∷ 0x3fd3_3333_3333_3333 ∷ 0 ∷ 0 ∷ 0xbfec_cccc_cccc_cccd ∷ 0x3fc9_9999_9999_999a
    ∷ 0x8000_0000_0000_0000 ∷ 0
    ∷ 0x3fe6_6666_6666_6666 ∷ 0xbfd3_3333_3333_3333 ∷ 0xbfb9_9999_9999_999a ∷ 0x3fe9_9999_9999_999a
    ∷ 0x3fd9_9999_9999_999a ∷ 0x3fe3_3333_3333_3333 ∷ 0xbfe6_6666_6666_6666 ∷ 0x3fd3_3333_3333_3333 ∷ [])
    ∷ case 2 (0x8000_0000_0000_0000 ∷ 0x3ff0_0000_0000_0000 ∷ 0xbff0_0000_0000_0000 ∷ 0x8000_0000_0000_0000 ∷ [])
    ∷ case 2 (0x3ff0_0000_0000_0000 ∷ 0x3ff0_0000_0000_0000 ∷ 0xbff0_0000_0000_0000 ∷ 0xbff0_0000_0000_0000 ∷ []) ∷ []

pairs : map complex blocks
    ≡ ((0 ∷ []) ∷ (0 ∷ 0 ∷ []) ∷ (0x3ff0_0000_0000_0000 ∷ 0xbff0_0000_0000_0000 ∷ []) ∷ [])
    ∷ ((0 ∷ []) ∷ (0x3fd6_6666_6666_6666 ∷ 0x3fd6_6666_6666_6666 ∷ 0x3fec_cccc_cccc_cccd ∷ [])
    ∷ (0x3fdf_d6ef_e4c9_b8a5 ∷ 0xbfdf_d6ef_e4c9_b8a5 ∷ 0 ∷ []) ∷ [])
    ∷ ((0 ∷ []) ∷ (0x3fec_cccc_cccc_cccd ∷ 0x3fd6_6666_6666_6666 ∷ 0x3fd6_6666_6666_6666 ∷ [])
    ∷ (0 ∷ 0x3fdf_d6ef_e4c9_b8a5 ∷ 0xbfdf_d6ef_e4c9_b8a5 ∷ []) ∷ [])
    ∷ ((0 ∷ []) ∷ (0x3fd6_6666_6666_6666 ∷ 0x3fd6_6666_6666_6666 ∷ 0x3fb9_9999_9999_9999 ∷ 0x3fb9_9999_9999_9999 ∷ [])
    ∷ (0x3fdf_d6ef_e4c9_b8a5 ∷ 0xbfdf_d6ef_e4c9_b8a5 ∷ 0x3fe7_1355_d04d_e18f ∷ 0xbfe7_1355_d04d_e18f ∷ []) ∷ [])
    ∷ ((0 ∷ []) ∷ (0 ∷ 0x8000_0000_0000_0000 ∷ []) ∷ (0x3ff0_0000_0000_0000 ∷ 0xbff0_0000_0000_0000 ∷ []) ∷ [])
    ∷ ((0 ∷ []) ∷ (0 ∷ 0 ∷ []) ∷ (0 ∷ 0 ∷ []) ∷ []) ∷ []
unfolding opened_readers blocks case lent complex complex_told answer_of
pairs = refl

finite_pairs : map complex_finite blocks ≡ map complex blocks
unfolding opened_readers blocks case lent complex_finite complex complex_told answer_of
finite_pairs = refl

-- the real reader refuses each, and the list is as it was
complex_ones : map real blocks ≡ map (λ c. (10 ∷ 0 ∷ 0 ∷ []) ∷ shown (lent c.order) ∷ []) blocks
unfolding opened_readers blocks case lent real told answer_of
complex_ones = refl

-- ---- refusals: T, and the number and the place that are told; the lists are as they were

pub record Fault : Type 0 where
  pub of : Case
  pub answer : List ℕ

unfoldable pub fault : ℕ → List ℕ → List ℕ → Fault
fault n t answer = record { of = case n t; answer = answer }

real_kept : Fault → List (List ℕ)
real_kept f = f.answer ∷ shown (lent f.of.order) ∷ []

complex_kept : Fault → List (List ℕ)
complex_kept f = f.answer ∷ shown (lent f.of.order) ∷ shown (lent f.of.order) ∷ []

-- two entries that spoil the shape, and an infinity last
infinite : Case
infinite = case 3 (0 ∷ 0x3ff0_0000_0000_0000 ∷ 1 ∷ 0 ∷ 0 ∷ 0x3ff0_0000_0000_0000 ∷ 0 ∷ 0 ∷ 0x7ff0_0000_0000_0000 ∷ [])

-- By both: i, orders 0 and 65; too few entries, an infinity among them; h, NaN in row 2 of column 1, and an infinity in
-- row 0 of column 2; an infinity alone; n; row 2 of column 0 not 0, and so both entries below the diagonal; the same
-- with an infinity last, which is told before the shape.
faults : List Fault
faults =
    fault 0 [] (1 ∷ 0 ∷ 0 ∷ [])
    ∷ fault 65 [] (2 ∷ 0 ∷ 0 ∷ [])
    ∷ fault 2 (0x7ff0_0000_0000_0000 ∷ 0 ∷ 0 ∷ []) (3 ∷ 0 ∷ 0 ∷ [])
    ∷ fault 3 (0 ∷ 0 ∷ 0 ∷ 0 ∷ 0 ∷ 0x7ff8_0000_0000_0000 ∷ 0xfff0_0000_0000_0000 ∷ 0 ∷ 0 ∷ []) (6 ∷ 2 ∷ 1 ∷ [])
    ∷ fault 1 (0x7ff0_0000_0000_0000 ∷ []) (6 ∷ 0 ∷ 0 ∷ [])
    ∷ fault 3 (0 ∷ 0x3ff0_0000_0000_0000 ∷ 0 ∷ 0 ∷ 0 ∷ 0x3ff0_0000_0000_0000 ∷ 0 ∷ 0 ∷ 0 ∷ []) (9 ∷ 2 ∷ 1 ∷ [])
    ∷ fault 3 (0 ∷ 0x3ff0_0000_0000_0000 ∷ 1 ∷ 0 ∷ 0 ∷ 0x3ff0_0000_0000_0000 ∷ 0 ∷ 0 ∷ 0 ∷ []) (9 ∷ 2 ∷ 0 ∷ [])
    ∷ record { of = infinite; answer = 6 ∷ 2 ∷ 2 ∷ [] } ∷ []

refused : map (λ f. real f.of) faults ≡ map real_kept faults
unfolding opened_readers faults infinite fault case lent real told answer_of real_kept
refused = refl

complex_refused : map (λ f. complex f.of) faults ≡ map complex_kept faults
unfolding opened_readers faults infinite fault case lent complex complex_told answer_of complex_kept
complex_refused = refl

-- where entries are known to be finite no infinity is looked for, and the shape of that last one is told
finite_refused : finite infinite ∷ complex_finite infinite ∷ []
    ≡ ((9 ∷ 2 ∷ 0 ∷ []) ∷ shown (lent 3) ∷ []) ∷ ((9 ∷ 2 ∷ 0 ∷ []) ∷ shown (lent 3) ∷ shown (lent 3) ∷ []) ∷ []
unfolding opened_readers infinite case lent finite complex_finite told complex_told answer_of
finite_refused = refl

-- By the complex reader alone: a discriminant above 0; one that is NaN, in row 1; an infinite root, the discriminant
-- being -infinity; order 3, half the trace infinite in row 1.
not_complex_ones : List Fault
not_complex_ones =
    fault 2 (0x3ff0_0000_0000_0000 ∷ 0x4008_0000_0000_0000 ∷ 0x4000_0000_0000_0000 ∷ 0x4010_0000_0000_0000 ∷ [])
    (11 ∷ 0 ∷ 0 ∷ [])
    ∷ fault 3 (0x3ff0_0000_0000_0000 ∷ 0 ∷ 0 ∷ 0 ∷ 0x6bb0_0000_0000_0000 ∷ 0x6bb0_0000_0000_0000 ∷ 0
    ∷ 0xebb0_0000_0000_0000 ∷ 0xebb0_0000_0000_0000 ∷ [])
    (11 ∷ 1 ∷ 1 ∷ [])
    ∷ fault 2 (0 ∷ 0x6bb0_0000_0000_0000 ∷ 0xebb0_0000_0000_0000 ∷ 0 ∷ []) (8 ∷ 0 ∷ 0 ∷ [])
    ∷ fault 3 (0x3ff0_0000_0000_0000 ∷ 0 ∷ 0 ∷ 0 ∷ 0x7fe8_0000_0000_0000 ∷ 0x3ff0_0000_0000_0000 ∷ 0
    ∷ 0xbff0_0000_0000_0000 ∷ 0x7fe8_0000_0000_0000 ∷ [])
    (8 ∷ 1 ∷ 1 ∷ []) ∷ []

not_complex_refused : map (λ f. complex f.of) not_complex_ones ≡ map complex_kept not_complex_ones
unfolding opened_readers not_complex_ones fault case lent complex complex_told answer_of complex_kept
not_complex_refused = refl

-- a list of eigenvalues of another length, each in turn
lengths : told (real_read 1 (one ∷ []) []) ∷ complex_told (complex_read 1 (one ∷ []) [] (one ∷ []))
    ∷ complex_told (complex_read 1 (one ∷ []) (one ∷ []) (one ∷ one ∷ [])) ∷ []
    ≡ ((3 ∷ 0 ∷ 0 ∷ []) ∷ [] ∷ []) ∷ ((3 ∷ 0 ∷ 0 ∷ []) ∷ [] ∷ shown (one ∷ []) ∷ [])
    ∷ ((3 ∷ 0 ∷ 0 ∷ []) ∷ shown (one ∷ []) ∷ shown (one ∷ one ∷ []) ∷ []) ∷ []
unfolding opened_readers told complex_told answer_of
lengths = refl
