-- What the inner functions of the plain entry promise, of what is lent. Nothing outside this crate cites it.
use Rattle.refusal.specs.Refusal.{Checked, passed}
use Rattle.std.specs.Prelude.{List, ◌≡◌, Float}
use Rattle.loops.specs.Constants.{zero}
use Rattle.matrix.specs.Vectors.{filled}
use Rattle.pass.specs.Block.{block_at, eigvals_of}
use Rattle.eigenvalues.specs.Readers.{read, left_by}
use Rattle.plain.specs.declared.Loan.{Loan}
use Rattle.plain.specs.Plain.{plain_two, plain_ran, plain_run, in_place, plain_begun, plain, kept}

-- l' holds what l holds: the same list of eigenvalues, and the same workspace
pub record Same (l l' : Loan) : Type 0 where
  pub values : l'.values.ghost_name ≡ l.values.ghost_name
  pub work : l'.work.ghost_name ≡ l.work.ghost_name

-- order 2: what was answered with the list that is left, and the workspace
pub record TwoDone (m : List Float) (l : Loan) (r : Checked) (l' : Loan) : Type 0 where
  pub told : read r l'.values.now ≡ left_by (plain_two (eigvals_of (block_at 2 0 m))) l.values.now
  pub cleared : l'.work.now ≡ filled zero l.work.now
  pub same : Same l l'

-- every other order: the same, and what stands in the matrix's place
pub record RunDone (t : List Float) (l : Loan) (r : Checked) (t' : List Float) (l' : Loan) : Type 0 where
  pub told : read r l'.values.now ≡ left_by (plain_run l.n (plain_ran l.n t l.work.now)) l.values.now
  pub left : t' ≡ (plain_ran l.n t l.work.now).pair.t
  pub cleared : l'.work.now ≡ filled zero l.work.now
  pub same : Same l l'

-- all of it, in place
pub record Done (t : List Float) (l : Loan) (r : Checked) (t' : List Float) (l' : Loan) : Type 0 where
  pub is : in_place r t' l'.values.now l'.work.now ≡ plain_begun passed l.n t l.values.now l.work.now
  pub same : Same l l'

-- and of a matrix that is kept
pub record KeptDone (m : List Float) (l : Loan) (r : Checked) (l' : Loan) : Type 0 where
  pub is : plain r l'.values.now l'.work.now ≡ kept (plain_begun passed l.n m l.values.now l.work.now)
  pub same : Same l l'
