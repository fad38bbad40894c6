-- Where all checks of the arguments have passed: what each of them tells, and that the run's own test holds then. Assumes nothing.
use Rattle.std.specs.Prelude.{None}
use Prim.Native.Nat.{ℕ, ◌*◌, ◌≤◌}
use mathlib.Core.Bool.{true}
use mathlib.Core.Path.{◌≡◌, refl, sym, ◌∙◌}
use mathlib.Core.List.{List}
use native.Mathlib.Omega.{arith}
use borrow.Author.Tests.{leb-true, le-leb, eq-eqb, not-false}
use lib.Dec.{leb}
use lib.Ieee.{Float}
use Rattle.loops.specs.Constants.{zero}
use Rattle.matrix.specs.Vectors.{filled}
use Rattle.matrix.proofs.Fitting.{both, fitting}
use Rattle.refusal.specs.Refusal.{Checked, passed, refuse, ◌next◌}
use Rattle.refusal.specs.Search.{first_not_finite}
use Rattle.refusal.proofs.ChecksInTurn.{next_passed, refuse_passed}
use Rattle.refusal.proofs.PassedChecks.{order_passed, order_passes, length_passed, matrices_passed, entries_passed, entries_passes}
use Rattle.pass.specs.declared.setting.Setting.{Setting}
use Rattle.pass.specs.Pair.{Pair, pair}
use Rattle.schur.specs.Run.{Left, run_fits, ran_of, largest_budget}
use Rattle.schur.proofs.RunAnswers.{RunFits}
use Rattle.decomposition.specs.Checks.{tolerance_fits, budget_fits, all_lengths, argument_checks}
use Rattle.decomposition.specs.Decomposition.{begun, judged, entry_of}

pub record Right (lengths : Checked) (asked : Setting) (budget : ℕ) (m : List Float) : Type 0 where
  pub some : 1 ≤ asked.order
  pub order : asked.order ≤ 64
  pub lent : lengths ≡ passed
  pub near : tolerance_fits asked.tolerance ≡ true
  pub bound : budget_fits budget ≡ true
  pub entries : first_not_finite asked.order m ≡ None

pub all_right : (lengths : Checked) (asked : Setting) (budget : ℕ) (m : List Float) → argument_checks lengths asked budget m ≡ passed
    → Right lengths asked budget m
unfolding argument_checks
all_right lengths asked budget m h =
    let a = next_passed _ _ h in
    let b = next_passed _ _ a.1 in
    let c = next_passed _ _ b.1 in
    let d = next_passed _ _ c.1 in
    let o = order_passed asked.order a.0 in
    record {
      some = o.some;
      order = o.order;
      lent = b.0;
      near = not-false (tolerance_fits asked.tolerance) (refuse_passed _ _ c.0);
      bound = not-false (budget_fits budget) (refuse_passed _ _ d.0);
      entries = entries_passed asked.order m d.1;
    }

-- and the other way
pub right_passed : {lengths : Checked} {asked : Setting} {budget : ℕ} {m : List Float} → Right lengths asked budget m
    → argument_checks lengths asked budget m ≡ passed
unfolding argument_checks refuse ◌next◌
right_passed {lengths} {asked} {budget} {m} r =
    rw (order_passes r.some r.order, r.lent, r.near, r.bound) (entries_passes asked.order m r.entries)

-- a budget that has passed is at least 1
pub some_budget : (b : ℕ) → budget_fits b ≡ true → 1 ≤ b
unfolding budget_fits
some_budget b h = leb-true 1 b (both (leb 1 b) (leb b largest_budget) h).0

-- and at most the largest
pub most_budget : (b : ℕ) → budget_fits b ≡ true → b ≤ largest_budget
unfolding budget_fits
most_budget b h = leb-true b largest_budget (both (leb 1 b) (leb b largest_budget) h).1

-- ---- the lengths of the matrix, of T and of the workspace

pub record Sizes (n mn tn wn : ℕ) : Type 0 where
  pub alike : mn ≡ tn
  pub square : tn ≡ n * n
  pub room : wn ≡ 2 * n

pub all_lent : (asked : Setting) (mn tn qn wn : ℕ) → all_lengths asked mn tn qn wn ≡ passed → Sizes asked.order mn tn wn
unfolding all_lengths
all_lent asked mn tn qn wn h =
    let a = next_passed _ _ h in
    let l = matrices_passed _ _ mn tn qn a.0 in
    record { alike = l.m ∙ sym l.t; square = l.t; room = length_passed _ wn _ a.1 }

-- and of Q, where it is wanted
pub q_lent : (asked : Setting) (mn tn qn wn : ℕ) → all_lengths asked mn tn qn wn ≡ passed → asked.wanted ≡ true → qn ≡ asked.order * asked.order
unfolding all_lengths
q_lent asked mn tn qn wn h = (matrices_passed _ _ mn tn qn (next_passed _ _ h).0).q

-- so the run's own test holds
pub sizes_fit : {n mn tn wn : ℕ} → 1 ≤ n → n ≤ 64 → Sizes n mn tn wn → run_fits n tn wn ≡ true
unfolding run_fits
sizes_fit {n} {mn} {tn} {wn} some small z = rw (le-leb 1 n some, fitting n tn n n small z.square (omega arith) (omega arith), eq-eqb wn (2 * n) z.room)

pub sizes_run : {n mn tn wn : ℕ} → 1 ≤ n → n ≤ 64 → Sizes n mn tn wn → RunFits n mn wn
sizes_run some small z = record { some = some; order = small; size = z.alike ∙ z.square; room = z.room }

-- ---- then the outcome is what is said of the run

pub passed_judged : (lengths : Checked) (asked : Setting) (budget : ℕ) (m : List Float) (p : Pair) (w : List Float) → Right lengths asked budget m
    → entry_of lengths asked budget m p w ≡ judged asked (ran_of asked budget (pair m p.q) w) w
unfolding entry_of begun
passed_judged lengths asked budget m p w r = rw (right_passed r)

pub judged_work : (asked : Setting) (l : Left) (w : List Float) → (judged asked l w).work ≡ filled zero w
unfolding judged
judged_work asked l w = refl
