-- The run (document 01, steps 1, 2, 6 and 7; docs/SUMS.md, 7.1 and 7.5 to 7.10): opened, then one turn after another
-- until the window has closed or the counted passes have reached the budget.
use Rattle.std.specs.Prelude.{ℕ, ◌+◌, ◌-◌, ◌*◌, Bool, cond, ◌&&◌, List, eqb, leb, length, Result, Ok, Err, Float}
use Rattle.loops.specs.Constants.{zero, one}
use Rattle.loops.specs.Until.{until}
use Rattle.scalar.specs.Class.{is_zero}
use Rattle.matrix.specs.Fits.{block_fits}
use Rattle.matrix.specs.Vectors.{largest, scaled, unscaled, filled, zeros}
use Rattle.hessenberg.specs.Reduced.{reduced}
use Rattle.hessenberg.specs.Unpacked.{unpacked_h, unpacked_q}
use Rattle.window.specs.declared.Window.{Window}
use Rattle.pass.specs.declared.setting.Setting.{Setting}
use Rattle.schur.specs.declared.run.State.{State}
use Rattle.schur.specs.declared.run.Stopped.{Stopped}
use Rattle.schur.specs.declared.run.Stopped.TheVariants.{BudgetReached, Unfit}
use Rattle.window.specs.Window.{window, delimit_of}
use Rattle.pass.specs.Pair.{Pair, pair, on_q}
use Rattle.pass.specs.Pass.{pass_of}
use Rattle.pass.specs.Block.{split_at, order_two}

-- ---- where a run stands: the window and the count of passes, and T and Q. It is always the state after delimiting.

pub record Running : Type 0 where
  pub state : State
  pub pair : Pair

abbrev pub running : State → Pair → Running
running s p = record { state = s; pair = p }

abbrev pub state : Window → (passes : ℕ) → State
state w passes = record { window = w; passes = passes }

abbrev pub passes_at : Running → ℕ
passes_at r = r.state.passes

unfoldable pub closed : Running → Bool
closed r = eqb r.state.window.start r.state.window.end

-- T is delimited from e; `stands` makes the state out of the window that is then open
unfoldable pub delimiting : Setting → (end : ℕ) → (stands : Window → State) → Pair → Running
delimiting asked e stands p =
    let d = delimit_of asked.order asked.tolerance e p.t in
    running (stands d.window) (pair d.t p.q)

-- a pass has been made from the state s, and counts
unfoldable pub after : Setting → (end : ℕ) → State → Pair → Running
after asked e s p = delimiting asked e (λ w. state w (s.passes + 1)) p

-- ---- one turn over an open window

-- A window of two: split. Then the end falls by 2 and the pass counts; if the end is 2 or less the run ends here,
-- uncounted.
unfoldable pub turn_two : Setting → State → Pair → Running
turn_two asked s p =
    let parted = split_at asked s.window.start p in
    cond (leb s.window.end 2) (running (state (window 0 0) s.passes) parted)
    (after asked (s.window.end - 2) s parted)

-- A window of three or more: one double-shift pass, which counts.
unfoldable pub turn_more : Setting → State → Pair → Running
turn_more asked s p = after asked s.window.end s (pass_of asked s.window p)

unfoldable pub turn_of : Setting → Running → Running
turn_of asked r =
    cond (leb r.state.window.end (r.state.window.start + 1)) (turn_two asked r.state r.pair)
    (turn_more asked r.state r.pair)

-- at most `budget` turns
unfoldable pub run_from : Setting → (budget : ℕ) → Running → Running
run_from asked budget r = until closed (turn_of asked) budget r

-- ---- order 3 and up

-- divided by the largest magnitude, unless that is 0
unfoldable pub scaled_down : List Float → List Float
scaled_down t = cond (is_zero (largest t)) t (unscaled (largest t) t)

-- reduced by way of the workspace w: H, and Q where it is wanted
unfoldable pub reduced_pair : Setting → Pair → (w : List Float) → Pair
reduced_pair asked p w =
    let n = asked.order in
    let r = reduced n p.t w in
    pair (unpacked_h n r.work r.matrix) (on_q asked.wanted (unpacked_q n r.matrix r.work) p.q)

-- scaled down, reduced, delimited: no pass is counted yet
unfoldable pub opened : Setting → Pair → (w : List Float) → Running
opened asked p w =
    delimiting asked (asked.order - 1) (λ v. state v 0) (reduced_pair asked (pair (scaled_down p.t) p.q) w)

-- what a run answers: the counted passes after which it ended, or why it did not end
abbrev pub Ran : Type 0
Ran = Result ℕ Stopped

-- what a run answers, and what it leaves in T and Q
pub record Left : Type 0 where
  pub answer : Ran
  pub pair : Pair

abbrev pub left : Ran → Pair → Left
left a p = record { answer = a; pair = p }

-- A count equal to the budget is refused, even if the window has just closed; else T is multiplied by the largest
-- magnitude that it was divided by.
unfoldable pub answered : (budget : ℕ) → (amax : Float) → Running → Left
answered budget amax r =
    cond (eqb r.state.passes budget) (left (Err (BudgetReached r.state.window)) r.pair)
    (left (Ok r.state.passes) (pair (scaled amax r.pair.t) r.pair.q))

-- ---- every order

-- T has the order asked for, from 1 to 64, and the workspace has 2n numbers, by their lengths
unfoldable pub run_fits : (n tn wn : ℕ) → Bool
run_fits n tn wn = leb 1 n && (block_fits n tn n n && eqb wn (2 * n))

-- order 1: T is the matrix, Q is 1
unfoldable pub ran_of : Setting → (budget : ℕ) → Pair → (w : List Float) → Left
ran_of asked budget p w =
    cond (eqb asked.order 1) (left (Ok 0) (pair p.t (on_q asked.wanted (filled one) p.q)))
    (cond (eqb asked.order 2) (left (Ok 0) (order_two asked p))
    (answered budget (largest p.t) (run_from asked budget (opened asked p w))))

-- ---- of the matrix alone

-- In memory that holds +0 throughout. No run feels what its memory holds (`Lent` in proofs): so each answers this, and
-- leaves this T, and this Q where it is wanted.
abbrev pub fresh_ran : Setting → (budget : ℕ) → (t : List Float) → Left
fresh_ran asked budget t =
    let n = asked.order in
    ran_of asked budget (pair t (zeros (n * n))) (zeros (2 * n))

-- the first state of that run
unfoldable pub opened_of : Setting → (t : List Float) → Running
opened_of asked t =
    let n = asked.order in
    opened asked (pair t (zeros (n * n))) (zeros (2 * n))

-- ---- the definition's count: of the matrix alone, and free of the budget

-- the largest budget there is
abbrev pub largest_budget : ℕ
largest_budget = 1000000

-- the counted passes of that run with the largest budget: none at orders 1 and 2
unfoldable pub count_of : Setting → (t : List Float) → ℕ
count_of asked t =
    cond (eqb asked.order 1) 0
    (cond (eqb asked.order 2) 0 (passes_at (run_from asked largest_budget (opened_of asked t))))

-- ---- the window at a budget: of the matrix alone too

-- what is open when the counted passes have reached the budget, after delimiting
unfoldable pub window_of : Setting → (budget : ℕ) → (t : List Float) → Window
window_of asked budget t = (run_from asked budget (opened_of asked t)).state.window

-- ---- where something does not fit

-- where something does not fit nothing is done
unfoldable pub run_of : Setting → (budget : ℕ) → Pair → (w : List Float) → Left
run_of asked budget p w =
    cond (run_fits asked.order (length p.t) (length w)) (ran_of asked budget p w) (left (Err Unfit) p)

-- the workspace afterwards: +0 throughout, unless nothing is done
unfoldable pub work_after : (n : ℕ) → (t w : List Float) → List Float
work_after n t w = cond (run_fits n (length t) (length w)) (filled zero w) w
