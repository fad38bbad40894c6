-- Where the checks of the decomposition on the bytes have passed: the lengths, and that the run's own test holds. Assumes nothing.
use Rattle.refusal.specs.declared.refusal.Refusal.TheVariants.{ToleranceOutside, BudgetOutside}
use Rattle.refusal.specs.Refusal.{passed, refuse, ◌next◌}
use Rattle.refusal.specs.Checks.{order_checks, matrix_lengths, entry_checks}
use Rattle.refusal.proofs.ChecksInTurn.{in_turn}
use Rattle.decomposition.specs.Checks.{tolerance_fits, budget_fits, argument_checks}
use Rattle.words.specs.Floats.{floats_of}
use lib.Ieee.{binary64, of_bits}
use Prim.Native.Nat.{ℕ, ◌*◌, ◌≤◌}
use mathlib.Core.Path.{◌≡◌, refl, sym}
use mathlib.Core.Bool.{true, not}
use mathlib.Core.List.{List}
use lib.ListN.{length, replicate, take}
use Rattle.loops.specs.Constants.{zero}
use Rattle.loops.specs.Place.{square_64}
use Rattle.refusal.proofs.PassedChecks.{matrices_passed}
use Rattle.schur.specs.Run.{run_fits}
use Rattle.decomposition.proofs.CheckedArguments.{all_right, sizes_fit}
use Rattle.door.specs.declared.matrices.Request.{Request}
use Rattle.words.proofs.Between.{fresh_zeros, fresh_length}
use Rattle.door.specs.Matrices.{matrix_checks}
use Rattle.door.specs.Inner.{MatrixRoomy, MatrixRooms}

-- in code: the checks in turn
pub matrix_turns : (r : Request) (m : List ℕ) (tn qn : ℕ) → matrix_checks r m tn qn ≡ (order_checks r.order
    next matrix_lengths r.wanted (8 * (r.order * r.order)) (length m) tn qn
    next refuse (not (tolerance_fits (of_bits binary64 r.tolerance))) ToleranceOutside
    next refuse (not (budget_fits r.budget)) BudgetOutside
    next entry_checks r.order (floats_of m))
unfolding matrix_checks argument_checks
matrix_turns r m tn qn = refl

pub ruleset matrix_in_turn = (in_turn, matrix_turns)

pub record MatrixFit (r : Request) (mn tn qn : ℕ) : Type 0 where
  pub some : 1 ≤ r.order
  pub order : r.order ≤ 64
  pub small : r.order * r.order ≤ 4096
  pub matrix : mn ≡ 8 * (r.order * r.order)
  pub t : tn ≡ 8 * (r.order * r.order)
  pub q : r.wanted ≡ true → qn ≡ 8 * (r.order * r.order)

pub matrix_fit : (r : Request) (m : List ℕ) (tn qn : ℕ) → matrix_checks r m tn qn ≡ passed → MatrixFit r (length m) tn qn
unfolding matrix_checks
matrix_fit r m tn qn h =
    let x = all_right _ _ _ _ h in
    let l = matrices_passed _ _ (length m) tn qn x.lent in
    record { some = x.some; order = x.order; small = square_64 r.order x.order; matrix = l.m; t = l.t; q = l.q }

pub run_fits_lem : {r : Request} {mn tn qn an wn : ℕ} → MatrixFit r mn tn qn → an ≡ r.order * r.order → wn ≡ 2 * r.order → run_fits r.order an wn ≡ true
run_fits_lem {an = an} f size room = sizes_fit {mn = an} f.some f.order (record { alike = refl; square = size; room = room })

-- the rooms of a call, cut from arrays of zeros
pub fresh_rooms : {size spare : ℕ} {r : Request} {m t q : List ℕ} → MatrixRoomy size spare r m t q
    → let room = take (r.order * r.order) (replicate size zero) in
    MatrixRooms r m t q room room (take (2 * r.order) (replicate spare zero))
fresh_rooms {size} {spare} f = record {
  passed = f.passed;
  matrix = sym (fresh_length _ size f.square);
  for_q = fresh_zeros _ size f.square;
  workspace = fresh_zeros _ spare f.double;
}
