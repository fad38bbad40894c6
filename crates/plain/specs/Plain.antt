-- The plain entry: real eigenvalues alone, with the tolerance 2^-52 and the budget 10,000, and without Q. It works in
-- place, where the matrix becomes T; a matrix that is kept is copied first.
use Rattle.std.specs.Prelude.{Err, None, Ok, Option, Some}
use Rattle.std.specs.Prelude.{ℕ, ◌*◌, ◌≤◌, false, cond, not, ◌≡◌, List, [], ◌∷◌, eqb, length, Float}
use Rattle.loops.specs.Constants.{zero, epsilon}
use Rattle.loops.specs.Rounded.{◌!◌}
use Rattle.scalar.specs.Class.{is_finite}
use Rattle.matrix.specs.Vectors.{filled}
use Rattle.pass.specs.declared.block.Values.{Values}
use Rattle.pass.specs.declared.setting.Setting.{Setting}
use Rattle.pass.specs.Setting.{setting}
use Rattle.pass.specs.Block.{block_at, eigvals_of}
use Rattle.pass.specs.Pair.{pair}
use Rattle.schur.specs.Run.{ran_of}
use Rattle.refusal.specs.declared.refusal.Refusal.TheVariants.{WrongLength, ResultNotFinite, ComplexEigenvalues}
use Rattle.refusal.specs.Refusal.{Checked, refuse_at, ◌next◌}
use Rattle.refusal.specs.Search.{first_on_diagonal}
use Rattle.refusal.specs.Checks.{order_checks, length_check, given_checks}
use Rattle.decomposition.specs.Decomposition.{Decomposed, Outcome, judged}
use Rattle.eigenvalues.specs.Readers.{pair_check, diagonal, Read, read, left_by}

-- ---- before the run: the matrix, one number for each row, the workspace

unfoldable pub plain_lengths : (n mn vn wn : ℕ) → Checked
plain_lengths n mn vn wn =
    length_check WrongLength mn (n * n) next length_check WrongLength vn n next length_check WrongLength wn (2 * n)

-- what is known where the order and the lengths have passed
pub record Sized (n mn vn wn : ℕ) : Type 0 where
  pub some : 1 ≤ n
  pub order : n ≤ 64
  pub square : mn ≡ n * n
  pub list : vn ≡ n
  pub room : wn ≡ 2 * n

-- ---- order 2: no run, and the larger one first

abbrev pub both_of : Values → List Float
both_of v = v.first ∷ v.second ∷ []

unfoldable pub plain_two : Option Values → Read
plain_two None = read (Err ComplexEigenvalues) []
plain_two (Some v) = read (refuse_at ResultNotFinite (first_on_diagonal (λ k. not (is_finite (both_of v ! k))) 2)) (both_of v)

-- ---- every other order: the decomposition without Q, then the real reader's last check

abbrev pub plain_budget : ℕ
plain_budget = 10000

abbrev pub plain_asked : ℕ → Setting
plain_asked n = setting n false epsilon

-- the run, and what is said of it
abbrev pub plain_ran : ℕ → (m w : List Float) → Outcome
plain_ran n m w = judged (plain_asked n) (ran_of (plain_asked n) plain_budget (pair m []) w) w

unfoldable pub complex_checked : Decomposed → ℕ → List Float → Checked
complex_checked (Ok passes) n t = pair_check n t
complex_checked (Err r) n t = Err r

unfoldable pub plain_run : ℕ → Outcome → Read
plain_run n o = read (complex_checked o.answer n o.pair.t) (diagonal n o.pair.t)

-- ---- once the arguments have passed

-- what is worked out of the matrix m with the workspace w
unfoldable pub plain_read : ℕ → (m w : List Float) → Read
plain_read n m w = cond (eqb n 2) (plain_two (eigvals_of (block_at 2 0 m))) (plain_run n (plain_ran n m w))

-- and what stands in the matrix's place then: without a run the matrix, else what the decomposition leaves, NaN
-- throughout if it has refused
unfoldable pub plain_left : ℕ → (m w : List Float) → List Float
plain_left n m w = cond (eqb n 2) m (plain_ran n m w).pair.t

-- ---- all of it, in place

-- what is answered; what stands in the matrix's place, in the list of eigenvalues and in the workspace
pub record InPlace : Type 0 where
  pub answer : Checked
  pub t : List Float
  pub values : List Float
  pub work : List Float

abbrev pub in_place : Checked → (t values w : List Float) → InPlace
in_place answer t values w = record { answer = answer; t = t; values = values; work = w }

-- refused before the run: nothing is touched; after it, the workspace is +0 throughout
unfoldable pub plain_begun : Checked → ℕ → (t values w : List Float) → InPlace
plain_begun (Ok u) n t values w =
    let r = left_by (plain_read n t w) values in in_place r.answer (plain_left n t w) r.values (filled zero w)
plain_begun (Err r) n t values w = in_place (Err r) t values w

unfoldable pub plain_placed_of : ℕ → (t values w : List Float) → InPlace
plain_placed_of n t values w =
    plain_begun (given_checks (plain_lengths n (length t) (length values) (length w)) n t) n t values w

-- The same where the entries need no look, as those that are known to be finite: 6 is not checked.
unfoldable pub plain_finite_of : ℕ → (t values w : List Float) → InPlace
plain_finite_of n t values w =
    plain_begun (order_checks n next plain_lengths n (length t) (length values) (length w)) n t values w

-- ---- and of a matrix that is kept

-- what is answered, the list of eigenvalues, and the workspace
pub record Plain : Type 0 where
  pub answer : Checked
  pub values : List Float
  pub work : List Float

abbrev pub plain : Checked → (values w : List Float) → Plain
plain answer values w = record { answer = answer; values = values; work = w }

-- what is left of a copy is let go
abbrev pub kept : InPlace → Plain
kept p = plain p.answer p.values p.work

unfoldable pub plain_of : ℕ → (m values w : List Float) → Plain
plain_of n m values w = kept (plain_placed_of n m values w)
