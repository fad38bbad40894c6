-- What the decomposition looks at, in the order of document 01's table: the arguments before the run, T and Q after it.
use Rattle.std.specs.Prelude.{ℕ, ◌*◌, Bool, not, ◌&&◌, List, leb, Float}
use Rattle.std.specs.Float.Ieee.{le, lt}
use Rattle.loops.specs.Constants.{zero, one}
use Rattle.refusal.specs.declared.refusal.Refusal.TheVariants.{WrongLength, ToleranceOutside, BudgetOutside}
use Rattle.refusal.specs.declared.refusal.Refusal.TheVariants.{ResultNotFinite, ShapeSpoiled}
use Rattle.refusal.specs.Refusal.{Checked, refuse, refuse_at, ◌next◌}
use Rattle.refusal.specs.Search.{first_not_finite, first_spoiling}
use Rattle.refusal.specs.Checks.{order_checks, length_check, only_if, matrix_lengths, entry_checks}
use Rattle.pass.specs.declared.setting.Setting.{Setting}
use Rattle.pass.specs.Pair.{Pair}
use Rattle.schur.specs.Run.{largest_budget}

-- ---- before the run

-- from 0 to below 1: -0 counts as 0, and NaN is outside
unfoldable pub tolerance_fits : Float → Bool
tolerance_fits x = le zero x && lt x one

unfoldable pub budget_fits : ℕ → Bool
budget_fits b = leb 1 b && leb b largest_budget

-- `lengths` are the checks of all that is lent
unfoldable pub argument_checks : (lengths : Checked) → Setting → (budget : ℕ) → (m : List Float) → Checked
argument_checks lengths asked budget m =
    order_checks asked.order
    next lengths
    next refuse (not (tolerance_fits asked.tolerance)) ToleranceOutside
    next refuse (not (budget_fits budget)) BudgetOutside
    next entry_checks asked.order m

-- the matrix, T, Q where it is wanted, the workspace, by their lengths
unfoldable pub all_lengths : Setting → (mn tn qn wn : ℕ) → Checked
all_lengths asked mn tn qn wn =
    let n = asked.order in
    matrix_lengths asked.wanted (n * n) mn tn qn next length_check WrongLength wn (2 * n)

-- ---- after a run that ended: T first, or else Q

unfoldable pub result_checks : Setting → Pair → Checked
result_checks asked p =
    let n = asked.order in
    refuse_at ResultNotFinite (first_not_finite n p.t)
    next only_if asked.wanted (refuse_at ResultNotFinite (first_not_finite n p.q))
    next refuse_at ShapeSpoiled (first_spoiling n p.t)
