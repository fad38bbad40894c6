-- The plain entry, told of the pieces that the code has in hand. Assumes nothing.
use Rattle.std.specs.Prelude.{Err, None, Ok, Option, Some}
use Rattle.std.specs.Option.{ok_or}
use Prim.Native.Nat.{ℕ, ◌*◌}
use mathlib.Core.Bool.{Bool, true, false, not}
use mathlib.Core.Path.{◌≡◌, refl, sym, ap, ◌∙◌}
use mathlib.Core.List.{List, [], ◌∷◌}
use native.Mathlib.Omega.{arith}
use borrow.Author.Tests.{eq-eqb, ne_eqb}
use mathlib.Core.Logic.{◌≢◌}
use lib.ListN.{length}
use lib.Ieee.{Float}
use Rattle.loops.specs.Constants.{zero}
use Rattle.loops.specs.Rounded.{◌!◌}
use Rattle.scalar.specs.Class.{is_finite}
use Rattle.matrix.specs.Vectors.{filled}
use Rattle.pass.specs.Pair.{pair}
use Rattle.pass.specs.Block.{block_at, eigvals_of}
use Rattle.pass.specs.declared.block.Values.{Values}
use Rattle.schur.specs.Run.{Left, run_fits, ran_of, run_of, work_after}
use Rattle.refusal.specs.declared.refusal.Refusal.{Refusal}
use Rattle.refusal.specs.declared.refusal.Refusal.TheVariants.{ResultNotFinite, ComplexEigenvalues}
use Rattle.refusal.specs.Refusal.{Checked, passed, at, refuse_at, ◌next◌, if_passed}
use Rattle.refusal.specs.Checks.{order_checks, entry_checks, given_checks}
use Rattle.refusal.proofs.ChecksInTurn.{next_before, next_back, in_turn}
use Rattle.refusal.proofs.PassedChecks.{order_then, length_passed, length_then}
use Rattle.refusal.proofs.Searching.{Sought, sought_none, sought_more}
use Rattle.decomposition.specs.Decomposition.{Outcome, outcome, Settlement, decided, judged}
use Rattle.decomposition.proofs.CheckedArguments.{sizes_fit}
use Rattle.eigenvalues.specs.Readers.{pair_check, diagonal, Read, read, left_by}
use Rattle.eigenvalues.proofs.DiagonalSearch.{place_here, place_none}
use Rattle.plain.specs.Plain.{complex_checked, plain_run, plain_read, plain_left}
use Rattle.plain.specs.Plain.{plain_lengths, Sized, both_of, plain_two, plain_budget, plain_asked, plain_ran, InPlace, in_place, plain_begun, plain, kept}
use Rattle.plain.proofs.InPlace.{copied_in_place}

-- ---- what the checks of the order and the lengths tell

pub sizes_passed : (n mn vn wn : ℕ) → (order_checks n next plain_lengths n mn vn wn) ≡ passed → Sized n mn vn wn
unfolding plain_lengths
sizes_passed n mn vn wn h =
    let o = order_then _ _ h in
    let m = length_then _ _ _ _ o.behind in
    let v = length_then _ _ _ _ m.behind in
    record { some = o.some; order = o.order; square = m.size; list = v.size; room = length_passed _ _ _ v.behind }

-- the entries stand behind them
pub given_sized : (n mn vn wn : ℕ) (m : List Float) → given_checks (plain_lengths n mn vn wn) n m ≡ passed → Sized n mn vn wn
unfolding given_checks
given_sized n mn vn wn m h = sizes_passed n mn vn wn (next_before _ _ _ h)

-- and of the square alone
pub sized_square : {n mn vn wn : ℕ} → Sized n mn vn wn → Sized n (n * n) vn wn
sized_square z = record { some = z.some; order = z.order; square = refl; list = z.list; room = z.room }

-- as the code makes the checks of the arguments
pub given_made : (lengths : Checked) (n : ℕ) (m : List Float) → given_checks lengths n m ≡ ((order_checks n next lengths) next entry_checks n m)
unfolding given_checks
given_made lengths n m = next_back _ _ _

pub ruleset arguments = (in_turn, given_made)

-- so the run's own test holds
pub run_fits_lem : {n mn vn wn : ℕ} → Sized n mn vn wn → run_fits n mn wn ≡ true
run_fits_lem z = sizes_fit z.some z.order (record { alike = refl; square = z.square; room = z.room })

-- ---- order 2: the first is not finite; the second is not; both are

abbrev unfit : Values → ℕ → Bool
unfit v k = not (is_finite (both_of v ! k))

pub two_first : (v : Values) (values : List Float) → is_finite v.first ≡ false
    → read (Err (ResultNotFinite (at 0 0))) values ≡ left_by (plain_two (Some v)) values
unfolding plain_two left_by refuse_at if_passed
two_first v values h = rw (← place_here (sought_none (unfit v) 2 0 (omega arith)) (omega arith) (ap not h))

-- the first is passed over
past_first : (v : Values) → is_finite v.first ≡ true → Sought (unfit v) 2 0 1
past_first v h = sought_more (sought_none (unfit v) 2 0 (omega arith)) (omega arith) (ap not h)

pub two_second : (v : Values) (values : List Float) → is_finite v.first ≡ true → is_finite v.second ≡ false
    → read (Err (ResultNotFinite (at 1 1))) values ≡ left_by (plain_two (Some v)) values
unfolding plain_two left_by refuse_at if_passed
two_second v values h k = rw (← place_here (past_first v h) (omega arith) (ap not k))

pub two_both : (v : Values) (values out : List Float) → is_finite v.first ≡ true → is_finite v.second ≡ true → out ≡ both_of v
    → read passed out ≡ left_by (plain_two (Some v)) values
unfolding plain_two left_by refuse_at if_passed
two_both v values out h k e = rw (← place_none (sought_more (past_first v h) (omega arith) (ap not k)) (omega arith), e)

pub ruleset two = (two_first, two_second, two_both)

-- there are none
pub two_none : {a : Checked} {r : Refusal} (v : Option Values) (values : List Float) → ok_or v ComplexEigenvalues ≡ Err r → a ≡ Err r
    → read a values ≡ left_by (plain_two v) values
unfolding plain_two left_by if_passed
two_none {r = r} None values h e = let same : r ≡ ComplexEigenvalues = cc in ap (λ c. read c values) (e ∙ ap Err same)
two_none (Some v) values h e = cc

-- ---- every other order

-- an empty list stays empty
pub none_left : (q : List Float) → length q ≡ 0 → q ≡ []
none_left [] h = refl
none_left (_ ∷ q) h = absurd (omega arith)

-- a run has been made where its arguments fit, and it was decided on: this is what they come to
pub ran_by : {l : Left} {s : Settlement} {w' : List Float} (n : ℕ) (m w : List Float) → run_fits n (length m) (length w) ≡ true
    → l ≡ run_of (plain_asked n) plain_budget (pair m []) w → s ≡ decided (plain_asked n) l.answer l.pair → w' ≡ work_after n m w → length s.pair.q ≡ 0
    → outcome s.answer (pair s.pair.t []) w' ≡ plain_ran n m w
unfolding judged run_of work_after
ran_by {l} {s} {w'} n m w fits run end work none =
    let there : l ≡ ran_of (plain_asked n) plain_budget (pair m []) w = rw fits at run in
    let cleared : w' ≡ filled zero w = rw fits at work in
    let said = end ∙ ap (λ l. decided (plain_asked n) l.answer l.pair) there in
    let whole : outcome s.answer s.pair w' ≡ plain_ran n m w = rw cleared (ap (λ s. outcome s.answer s.pair (filled zero w)) said) in
    ap (λ q. outcome s.answer (pair s.pair.t q) w') (sym (none_left s.pair.q none)) ∙ whole

pub run_refused : {a : Checked} {r : Refusal} (n : ℕ) (o : Outcome) (values : List Float) → o.answer ≡ Err r → a ≡ Err r
    → read a values ≡ left_by (plain_run n o) values
unfolding left_by plain_run complex_checked if_passed
run_refused n o values h e = rw (h, e)

pub run_read : {passes : ℕ} {x : Read} (n : ℕ) (o : Outcome) (t values : List Float) → o.answer ≡ Ok passes → t ≡ o.pair.t
    → x ≡ left_by (read (pair_check n t) (diagonal n t)) values → x ≡ left_by (plain_run n o) values
unfolding left_by plain_run complex_checked
run_read n o t values h e k = rw (h, ← e) k

-- ---- both, once the arguments have passed: x is what was answered, and what is left

told_by : (x : InPlace) (r : Read) (t w : List Float) → read x.answer x.values ≡ r → x.t ≡ t → x.work ≡ w → x ≡ in_place r.answer t r.values w
told_by x r t w e l k = ap (λ (r : Read). in_place r.answer x.t r.values x.work) e ∙ ap (λ t. in_place r.answer t r.values x.work) l
    ∙ ap (λ w. in_place r.answer t r.values w) k

pub begun_two : (x : InPlace) (n : ℕ) (t values w : List Float) → n ≡ 2 → read x.answer x.values ≡ left_by (plain_two (eigvals_of (block_at 2 0 t))) values
    → x.t ≡ t → x.work ≡ filled zero w → x ≡ plain_begun passed n t values w
unfolding plain_begun plain_read plain_left
begun_two x n t values w h e l k = rw (eq-eqb n 2 h) (told_by x _ _ _ e l k)

pub begun_run : (x : InPlace) (n : ℕ) (t values w : List Float) → n ≢ 2 → read x.answer x.values ≡ left_by (plain_run n (plain_ran n t w)) values
    → x.t ≡ (plain_ran n t w).pair.t → x.work ≡ filled zero w → x ≡ plain_begun passed n t values w
unfolding plain_begun plain_read plain_left
begun_run x n t values w h e l k = rw (ne_eqb n 2 h) (told_by x _ _ _ e l k)

-- ---- all of it: c is what the checks have come to

pub begun_kept : {r : Refusal} {a c : Checked} (n : ℕ) (t values w : List Float) → c ≡ Err r → a ≡ Err r → in_place a t values w ≡ plain_begun c n t values w
unfolding plain_begun
begun_kept n t values w h e = rw (h, e)

-- and of a copy
pub copy_kept : {r : Refusal} {a c : Checked} (n : ℕ) (t values w : List Float) → c ≡ Err r → a ≡ Err r → plain a values w ≡ kept (plain_begun c n t values w)
unfolding plain_begun
copy_kept n t values w h e = rw (h, e)

pub ruleset begun = (given_sized, sizes_passed, sized_square, begun_kept, copy_kept, copied_in_place)
