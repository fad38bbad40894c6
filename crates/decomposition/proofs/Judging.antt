-- A run and what is said of it, told of the pieces that the code has in hand. Assumes nothing.
use Rattle.std.specs.Prelude.{Err, Ok}
use Rattle.std.specs.Result.{is_err}
use Prim.Native.Nat.{ℕ, ◌*◌}
use mathlib.Core.Bool.{true, false, not}
use mathlib.Core.Path.{◌≡◌, refl, ap}
use mathlib.Core.List.{List}
use lib.ListN.{length}
use lib.Ieee.{Float}
use Rattle.loops.specs.Constants.{zero}
use Rattle.matrix.specs.Vectors.{filled}
use Rattle.pass.specs.declared.setting.Setting.{Setting}
use Rattle.pass.specs.Pair.{Pair, pair}
use Rattle.schur.specs.declared.run.Stopped.{Stopped}
use Rattle.schur.specs.declared.run.Stopped.TheVariants.{BudgetReached, Unfit}
use Rattle.schur.specs.Run.{Ran, Left, left, run_fits, ran_of, run_of, work_after}
use Rattle.refusal.specs.declared.refusal.Refusal.{Refusal}
use Rattle.refusal.specs.declared.refusal.Refusal.TheVariants.{WrongLength, ToleranceOutside, BudgetOutside, ResultNotFinite, ShapeSpoiled}
use Rattle.refusal.specs.Refusal.{Checked, passed, refuse, refuse_at, ◌next◌}
use Rattle.refusal.specs.Search.{first_not_finite, first_spoiling}
use Rattle.refusal.specs.Checks.{order_checks, length_check, only_if, matrix_lengths, entry_checks}
use Rattle.refusal.proofs.ChecksInTurn.{next_assoc, in_turn}
use Rattle.decomposition.specs.Checks.{tolerance_fits, budget_fits, all_lengths, argument_checks, result_checks}
use Rattle.decomposition.specs.Decomposition.{Decomposed, outcome, verdict, passes_of, nan_filled, Settlement, settlement, settled, decided, judged}
use Rattle.decomposition.specs.Inner.{refusal_of}

-- the run on arguments that fit
pub ran_there : (asked : Setting) (budget : ℕ) (p : Pair) (w : List Float) → run_fits asked.order (length p.t) (length w) ≡ true
    → run_of asked budget p w ≡ ran_of asked budget p w
unfolding run_of
ran_there asked budget p w h = rw h

pub work_there : (n : ℕ) (t w : List Float) → run_fits n (length t) (length w) ≡ true → work_after n t w ≡ filled zero w
unfolding work_after
work_there n t w h = rw h

-- what a run has answered and left, and what is decided of it
pub judged_by : (asked : Setting) (l : Left) (w w' : List Float) (ran : Ran) (p : Pair) (s : Settlement) → left ran p ≡ l → s ≡ decided asked ran p
    → w' ≡ filled zero w
    → outcome s.answer s.pair w' ≡ judged asked l w
unfolding judged
judged_by asked l w w' ran p s run end work = rw (end, work, ← run)

-- ---- the checks, as the code makes them

pub arguments_made : (asked : Setting) (budget : ℕ) (m : List Float) (mn tn qn wn : ℕ) → argument_checks (all_lengths asked mn tn qn wn) asked budget m
    ≡ (order_checks asked.order next matrix_lengths asked.wanted (asked.order * asked.order) mn tn qn next length_check WrongLength wn (2 * asked.order)
    next refuse (not (tolerance_fits asked.tolerance)) ToleranceOutside next refuse (not (budget_fits budget)) BudgetOutside next entry_checks asked.order m)
unfolding argument_checks all_lengths
arguments_made asked budget m mn tn qn wn = ap (λ c. order_checks asked.order next c) (next_assoc _ _ _)

pub result_made : (asked : Setting) (t q : List Float) → result_checks asked (pair t q) ≡ (refuse_at ResultNotFinite (first_not_finite asked.order t)
    next only_if asked.wanted (refuse_at ResultNotFinite (first_not_finite asked.order q)) next refuse_at ShapeSpoiled (first_spoiling asked.order t))
unfolding result_checks
result_made asked t q = refl

-- a check that is asked for, or is not
pub asked_for : (c : Checked) → only_if true c ≡ c
unfolding only_if
asked_for c = refl

pub not_asked : (c : Checked) → only_if false c ≡ passed
unfolding only_if
not_asked c = refl

pub ruleset checked = (in_turn, arguments_made, result_made, asked_for, not_asked)

-- ---- what is decided, by the run and the checks of its result

pub decided_stopped : (asked : Setting) (s : Stopped) (p : Pair) → decided asked (Err s) p ≡ settlement (Err (refusal_of s)) (nan_filled asked p)
unfolding decided settled verdict passes_of refusal_of
decided_stopped asked (BudgetReached w) p = refl
decided_stopped asked Unfit p = refl

pub decided_refused : {r : Refusal} (asked : Setting) (passes : ℕ) (p : Pair) → result_checks asked p ≡ Err r
    → decided asked (Ok passes) p ≡ settlement (Err r) (nan_filled asked p)
unfolding decided settled verdict passes_of
decided_refused asked passes p h = rw h

pub decided_accepted : {u : Unit {0}} (asked : Setting) (passes : ℕ) (p : Pair) → result_checks asked p ≡ Ok u → decided asked (Ok passes) p ≡ settlement (Ok passes) p
unfolding decided settled verdict passes_of
decided_accepted asked passes p h = rw h

pub judged_refused : {r : Refusal} {a : Decomposed} {ran : Ran} (asked : Setting) (passes : ℕ) (p : Pair) → ran ≡ Ok passes → result_checks asked p ≡ Err r → a ≡ Err r
    → a ≡ (decided asked ran p).answer
judged_refused asked passes p end h e = rw (end, decided_refused asked passes p h) e

pub ruleset judging = (decided_stopped, decided_refused, decided_accepted)

-- by whether that is refused, T and Q are NaN throughout or stay as they are
settled_filled : (asked : Setting) (passes : ℕ) (c : Checked) (p : Pair) → is_err (settled asked passes c p).answer ≡ true
    → settlement (settled asked passes c p).answer (nan_filled asked p) ≡ settled asked passes c p
unfolding settled
settled_filled asked passes (Ok u) p h = cc
settled_filled asked passes (Err r) p h = refl

settled_kept : (asked : Setting) (passes : ℕ) (c : Checked) (p : Pair) → is_err (settled asked passes c p).answer ≡ false
    → settlement (settled asked passes c p).answer p ≡ settled asked passes c p
unfolding settled
settled_kept asked passes (Ok u) p h = refl
settled_kept asked passes (Err r) p h = cc

pub decided_filled : {a : Decomposed} {q : Pair} (asked : Setting) (ran : Ran) (p : Pair) → a ≡ (decided asked ran p).answer → is_err a ≡ true → q ≡ nan_filled asked p
    → settlement a q ≡ decided asked ran p
unfolding decided
decided_filled asked ran p h e k = rw (h, k) (settled_filled asked _ _ p (rw h at e))

pub decided_kept : {a : Decomposed} (asked : Setting) (ran : Ran) (p : Pair) → a ≡ (decided asked ran p).answer → is_err a ≡ false → settlement a p ≡ decided asked ran p
unfolding decided
decided_kept asked ran p h e = rw h (settled_kept asked _ _ p (rw h at e))
