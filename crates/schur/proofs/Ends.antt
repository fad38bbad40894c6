-- What the check looks at for the whole function: what its test tells, and that the workspace is filled alike however
-- the run used it. Assumes nothing.
use Rattle.matrix.proofs.Each.{filled_same}
use Rattle.schur.proofs.RunAnswers.{run_fitting}

pub ruleset ends = (run_fitting, filled_same)
