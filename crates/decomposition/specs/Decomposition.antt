-- The decomposition on all inputs: what is answered, and what T, Q and the workspace hold afterwards.
use Rattle.std.specs.Prelude.{ℕ, ◌<◌, List, length, Result, Ok, Err, Float}
use Rattle.std.specs.Float.{nan}
use Rattle.loops.specs.Constants.{zero}
use Rattle.matrix.specs.Vectors.{filled}
use Rattle.pass.specs.declared.setting.Setting.{Setting}
use Rattle.pass.specs.Pair.{Pair, pair, on_q}
use Rattle.schur.specs.declared.run.Stopped.TheVariants.{BudgetReached, Unfit}
use Rattle.schur.specs.Run.{Ran, Left, ran_of}
use Rattle.refusal.specs.declared.refusal.Refusal.{Refusal}
use Rattle.refusal.specs.declared.refusal.Refusal.TheVariants as refusal
use Rattle.refusal.specs.declared.refusal.Told.{Told}
use Rattle.refusal.specs.Refusal.{Checked, told_of, without_place}
use Rattle.refusal.specs.Shape.{QuasiTriangular}
use Rattle.decomposition.specs.Checks.{all_lengths, argument_checks, result_checks}

-- accepted, with the counted passes; or refused
abbrev pub Decomposed : Type 0
Decomposed = Result ℕ Refusal

-- what is answered, what stands in T and Q, and in the workspace
pub record Outcome : Type 0 where
  pub answer : Decomposed
  pub pair : Pair
  pub work : List Float

abbrev pub outcome : Decomposed → Pair → List Float → Outcome
outcome answer p w = record { answer = answer; pair = p; work = w }

-- ---- after a run

-- The budget was reached: 7. Else T and Q are looked at. That an argument does not fit is never met here, since the
-- lengths were checked before.
unfoldable pub verdict : Setting → Ran → Pair → Checked
verdict asked (Ok passes) p = result_checks asked p
verdict asked (Err (BudgetReached window)) p = Err refusal.BudgetReached
verdict asked (Err Unfit) p = Err refusal.WrongLength

-- the counted passes of a run that ended
unfoldable pub passes_of : Ran → ℕ
passes_of (Ok passes) = passes
passes_of (Err (BudgetReached window)) = 0
passes_of (Err Unfit) = 0

-- refused: NaN in every entry of T, and of Q if it is wanted
unfoldable pub nan_filled : Setting → Pair → Pair
nan_filled asked p = pair (filled nan p.t) (on_q asked.wanted (filled nan) p.q)

pub record Settlement : Type 0 where
  pub answer : Decomposed
  pub pair : Pair

abbrev pub settlement : Decomposed → Pair → Settlement
settlement answer p = record { answer = answer; pair = p }

unfoldable pub settled : Setting → (passes : ℕ) → Checked → Pair → Settlement
settled asked passes (Ok u) p = settlement (Ok passes) p
settled asked passes (Err r) p = settlement (Err r) (nan_filled asked p)

-- a run that answered so, and left this T and Q
unfoldable pub decided : Setting → Ran → Pair → Settlement
decided asked ran p = settled asked (passes_of ran) (verdict asked ran p) p

-- accepted or refused, the workspace is +0 throughout
unfoldable pub judged : Setting → Left → (w : List Float) → Outcome
judged asked l w = let s = decided asked l.answer l.pair in outcome s.answer s.pair (filled zero w)

-- ---- all of it

-- refused before the run: nothing is touched
unfoldable pub begun : Checked → Outcome → Pair → (w : List Float) → Outcome
begun (Ok u) ran p w = ran
begun (Err r) ran p w = outcome (Err r) p w

-- Any entry: `lengths` are the checks of all that is lent, m is the matrix, p is what is lent for T and Q, and w the
-- workspace.
unfoldable pub entry_of : (lengths : Checked) → Setting → (budget : ℕ) → (m : List Float) → Pair → (w : List Float)
    → Outcome
entry_of lengths asked budget m p w =
    begun (argument_checks lengths asked budget m) (judged asked (ran_of asked budget (pair m p.q) w) w) p w

abbrev pub decomposition_of : Setting → (budget : ℕ) → (m : List Float) → Pair → (w : List Float) → Outcome
decomposition_of asked budget m p w =
    entry_of (all_lengths asked (length m) (length p.t) (length p.q) (length w)) asked budget m p w

-- in place: T itself is the matrix
abbrev pub placed_of : Setting → (budget : ℕ) → Pair → (w : List Float) → Outcome
placed_of asked budget p w = decomposition_of asked budget p.t p w

-- what is answered, by the number and the place of document 01: 0 where it is accepted
unfoldable pub decomposed_told : Decomposed → Told
decomposed_told (Ok passes) = without_place 0
decomposed_told (Err r) = told_of r

-- an accepted count lies below the budget
abbrev pub BelowBudget : Decomposed → (budget : ℕ) → Type 0
BelowBudget (Ok passes) budget = passes < budget
BelowBudget (Err r) budget = Unit {0}

-- an accepted T is quasi-triangular
abbrev pub Shaped : Decomposed → (n : ℕ) → (t : List Float) → Type 0
Shaped (Ok passes) n t = QuasiTriangular n t
Shaped (Err r) n t = Unit {0}
