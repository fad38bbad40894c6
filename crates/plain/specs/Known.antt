-- Worked cases of the plain entry, by evaluation: patterns in, patterns out. The eigenvalues and T were computed by the
-- plain model of the Rust, oracle/src/model.rs; the refusals and the places that they tell are document 01's. a, b, d,
-- e and l are matrices with known outcomes of document 01.
use Rattle.std.specs.Prelude.{◌≡◌, refl, ℕ, ◌*◌, List, [], ◌∷◌, map}
use Rattle.loops.specs.Times.{times}
use Rattle.matrix.specs.Known.{shown, numbers}
use Rattle.decomposition.specs.Known.{opened_decomposition}
use Rattle.eigenvalues.specs.Known.{opened_readers, answer_of, Case, case, lent, Fault, fault}
use Rattle.plain.specs.Plain.{plain_lengths, plain_two, complex_checked, plain_run, plain_read, plain_left, InPlace}
use Rattle.plain.specs.Plain.{plain_begun, plain_placed_of, plain_finite_of, plain_of}

-- every definition that a case computes with
unfoldable pub opened_plain : Unit {0}
unfolding opened_readers opened_decomposition plain_lengths plain_two complex_checked plain_run plain_read plain_left
    plain_begun plain_placed_of
    plain_finite_of plain_of
opened_plain = tt

-- ---- the workspace is lent full of ones, and is +0 after a run

plainly : Case → List (List ℕ)
plainly c = let p = plain_of c.order (numbers c.matrix) (lent c.order) (lent (2 * c.order)) in
    answer_of p.answer ∷ shown p.values ∷ shown p.work ∷ []

-- a; rows (2 0), (0 3): the larger first; rows (1 2), (3 4); d; rows (1 2 3), (2 5 6), (3 6 9), after some passes
plain_ones : map plainly (
    case 1 (0x4014_0000_0000_0000 ∷ [])
    ∷ case 2 (0x4000_0000_0000_0000 ∷ 0 ∷ 0 ∷ 0x4008_0000_0000_0000 ∷ [])
    ∷ case 2 (0x3ff0_0000_0000_0000 ∷ 0x4008_0000_0000_0000 ∷ 0x4000_0000_0000_0000 ∷ 0x4010_0000_0000_0000 ∷ [])
    ∷ case 3 (0x3ff0_0000_0000_0000 ∷ 0 ∷ 0 ∷ 0 ∷ 0x4000_0000_0000_0000 ∷ 0 ∷ 0 ∷ 0 ∷ 0x4010_0000_0000_0000 ∷ [])
    ∷ case 3 (0x3ff0_0000_0000_0000 ∷ 0x4000_0000_0000_0000 ∷ 0x4008_0000_0000_0000 ∷ 0x4000_0000_0000_0000
    ∷ 0x4014_0000_0000_0000 ∷ 0x4018_0000_0000_0000
    ∷ 0x4008_0000_0000_0000 ∷ 0x4018_0000_0000_0000 ∷ 0x4022_0000_0000_0000 ∷ []) ∷ [])
    ≡ ((0 ∷ []) ∷ (0x4014_0000_0000_0000 ∷ []) ∷ (0 ∷ 0 ∷ []) ∷ [])
    ∷ ((0 ∷ []) ∷ (0x4008_0000_0000_0000 ∷ 0x4000_0000_0000_0000 ∷ []) ∷ (0 ∷ 0 ∷ 0 ∷ 0 ∷ []) ∷ [])
    ∷ ((0 ∷ []) ∷ (0x4015_7d37_50b1_6878 ∷ 0xbfd7_d375_0b16_8780 ∷ []) ∷ (0 ∷ 0 ∷ 0 ∷ 0 ∷ []) ∷ [])
    ∷ ((0 ∷ []) ∷ (0x3ff0_0000_0000_0000 ∷ 0x4000_0000_0000_0000 ∷ 0x4010_0000_0000_0000 ∷ [])
    ∷ (0 ∷ 0 ∷ 0 ∷ 0 ∷ 0 ∷ 0 ∷ []) ∷ [])
    ∷ ((0 ∷ []) ∷ (0x402c_99f9_f8a4_86ff ∷ 0x3ca5_02bb_9e9a_1d0a ∷ 0x3fe6_6060_75b7_9097 ∷ [])
    ∷ (0 ∷ 0 ∷ 0 ∷ 0 ∷ 0 ∷ 0 ∷ []) ∷ []) ∷ []
unfolding opened_plain case lent plainly answer_of
plain_ones = refl

-- refused before the run: order 0; the matrix of another length; an infinity in row 1 of column 0. After it: b, J; e, J
-- and then 2; l, both values infinite; rows (2^1023 0), (0 2^1023), whose trace is not finite
plain_before : List Fault
plain_before =
    fault 0 [] (1 ∷ 0 ∷ 0 ∷ [])
    ∷ fault 2 (0x7ff0_0000_0000_0000 ∷ 0 ∷ 0 ∷ []) (3 ∷ 0 ∷ 0 ∷ [])
    ∷ fault 2 (0 ∷ 0x7ff0_0000_0000_0000 ∷ 0x7ff8_0000_0000_0000 ∷ 0 ∷ []) (6 ∷ 1 ∷ 0 ∷ []) ∷ []

plain_after : List Fault
plain_after =
    fault 2 (0 ∷ 0x3ff0_0000_0000_0000 ∷ 0xbff0_0000_0000_0000 ∷ 0 ∷ []) (10 ∷ 0 ∷ 0 ∷ [])
    ∷ fault 3 (0 ∷ 0x3ff0_0000_0000_0000 ∷ 0 ∷ 0xbff0_0000_0000_0000 ∷ 0 ∷ 0 ∷ 0 ∷ 0 ∷ 0x4000_0000_0000_0000 ∷ [])
    (10 ∷ 0 ∷ 0 ∷ [])
    ∷ fault 2 (0 ∷ 0x6bb0_0000_0000_0000 ∷ 0x6bb0_0000_0000_0000 ∷ 0 ∷ []) (8 ∷ 0 ∷ 0 ∷ [])
    ∷ fault 2 (0x7fe0_0000_0000_0000 ∷ 0 ∷ 0 ∷ 0x7fe0_0000_0000_0000 ∷ []) (8 ∷ 0 ∷ 0 ∷ []) ∷ []

plain_refused : map (λ f. plainly f.of) plain_before
    ≡ map (λ f. f.answer ∷ shown (lent f.of.order) ∷ shown (lent (2 * f.of.order)) ∷ []) plain_before
unfolding opened_plain plain_before fault case lent plainly answer_of
plain_refused = refl

plain_spoilt : map (λ f. plainly f.of) plain_after
    ≡ map (λ f. f.answer ∷ shown (lent f.of.order) ∷ times (λ _ w. 0 ∷ w) (2 * f.of.order) [] ∷ []) plain_after
unfolding opened_plain plain_after fault case lent plainly answer_of
plain_spoilt = refl

-- ---- in place: what stands where the matrix stood

placed : InPlace → List (List ℕ)
placed p = answer_of p.answer ∷ shown p.t ∷ shown p.values ∷ shown p.work ∷ []

here : Case → List (List ℕ)
here c = placed (plain_placed_of c.order (numbers c.matrix) (lent c.order) (lent (2 * c.order)))

-- rows (1 2), (3 4): no run, so the matrix; rows (1 2 3), (2 5 6), (3 6 9): T; e: T, with its block; an infinity in row
-- 1 of column 0: the matrix; 2^1023 throughout, whose middle eigenvalue is infinite: NaN throughout
in_places : map here (
    case 2 (0x3ff0_0000_0000_0000 ∷ 0x4008_0000_0000_0000 ∷ 0x4000_0000_0000_0000 ∷ 0x4010_0000_0000_0000 ∷ [])
    ∷ case 3 (0x3ff0_0000_0000_0000 ∷ 0x4000_0000_0000_0000 ∷ 0x4008_0000_0000_0000 ∷ 0x4000_0000_0000_0000
    ∷ 0x4014_0000_0000_0000 ∷ 0x4018_0000_0000_0000
    ∷ 0x4008_0000_0000_0000 ∷ 0x4018_0000_0000_0000 ∷ 0x4022_0000_0000_0000 ∷ [])
    ∷ case 3 (0 ∷ 0x3ff0_0000_0000_0000 ∷ 0 ∷ 0xbff0_0000_0000_0000 ∷ 0 ∷ 0 ∷ 0 ∷ 0 ∷ 0x4000_0000_0000_0000 ∷ [])
    ∷ case 2 (0 ∷ 0x7ff0_0000_0000_0000 ∷ 0x7ff8_0000_0000_0000 ∷ 0 ∷ [])
    ∷ case 3 (times (λ _ m. 0x7fe0_0000_0000_0000 ∷ m) 9 []) ∷ [])
    ≡ ((0 ∷ []) ∷ (0x3ff0_0000_0000_0000 ∷ 0x4008_0000_0000_0000 ∷ 0x4000_0000_0000_0000 ∷ 0x4010_0000_0000_0000 ∷ [])
    ∷ (0x4015_7d37_50b1_6878 ∷ 0xbfd7_d375_0b16_8780 ∷ []) ∷ (0 ∷ 0 ∷ 0 ∷ 0 ∷ []) ∷ [])
    ∷ ((0 ∷ []) ∷ (0x402c_99f9_f8a4_86ff ∷ 0 ∷ 0 ∷ 0x3cf9_9800_0000_0000 ∷ 0x3ca5_02bb_9e9a_1d0a ∷ 0
    ∷ 0xbcc0_7220_aa4a_27f4 ∷ 0xbc98_50a6_6659_db7f
    ∷ 0x3fe6_6060_75b7_9097 ∷ []) ∷ (0x402c_99f9_f8a4_86ff ∷ 0x3ca5_02bb_9e9a_1d0a ∷ 0x3fe6_6060_75b7_9097 ∷ [])
    ∷ (0 ∷ 0 ∷ 0 ∷ 0 ∷ 0 ∷ 0 ∷ []) ∷ [])
    ∷ ((10 ∷ 0 ∷ 0 ∷ []) ∷ (0 ∷ 0x3ff0_0000_0000_0000 ∷ 0 ∷ 0xbff0_0000_0000_0000 ∷ 0 ∷ 0 ∷ 0x8000_0000_0000_0000 ∷ 0
    ∷ 0x4000_0000_0000_0000 ∷ [])
    ∷ shown (lent 3) ∷ (0 ∷ 0 ∷ 0 ∷ 0 ∷ 0 ∷ 0 ∷ []) ∷ [])
    ∷ ((6 ∷ 1 ∷ 0 ∷ []) ∷ (0 ∷ 0x7ff0_0000_0000_0000 ∷ 0x7ff8_0000_0000_0000 ∷ 0 ∷ []) ∷ shown (lent 2) ∷ shown (lent 4)
    ∷ [])
    ∷ ((8 ∷ 1 ∷ 1 ∷ []) ∷ times (λ _ m. 0x7ff8_0000_0000_0000 ∷ m) 9 [] ∷ shown (lent 3) ∷ (0 ∷ 0 ∷ 0 ∷ 0 ∷ 0 ∷ 0 ∷ [])
    ∷ []) ∷ []
unfolding opened_plain case lent here placed answer_of
in_places = refl

-- entries that are not looked at: an infinity of order 1 is met behind the run, as 8; a workspace of another length
-- before it
unlooked : map (λ room. placed (plain_finite_of 1 (numbers (0x7ff0_0000_0000_0000 ∷ [])) (lent 1) (lent room)))
    (2 ∷ 3 ∷ [])
    ≡ ((8 ∷ 0 ∷ 0 ∷ []) ∷ (0x7ff8_0000_0000_0000 ∷ []) ∷ shown (lent 1) ∷ (0 ∷ 0 ∷ []) ∷ [])
    ∷ ((3 ∷ 0 ∷ 0 ∷ []) ∷ (0x7ff0_0000_0000_0000 ∷ []) ∷ shown (lent 1) ∷ shown (lent 3) ∷ []) ∷ []
unfolding opened_plain lent placed answer_of
unlooked = refl
