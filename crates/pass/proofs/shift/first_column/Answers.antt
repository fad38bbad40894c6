-- `pass::shift::first_column` meets its contract. Assumes nothing.
use Rattle.pass.specs.Pass.{first_column}
use Rattle.pass.proofs.shift.first_column.Goals as goal

pub returns : goal.returns
unfolding first_column
returns c = rw (
  c.get-hmn.ensures,
  c.get-hnm.ensures,
  c.get-hmm.ensures,
  c.get-hnn.ensures,
  c.get-h32.ensures,
  c.get-h22.ensures,
  c.get-h21.ensures,
  c.get-h12.ensures,
  c.get-h11.ensures,
)
