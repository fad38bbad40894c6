-- `door::manulsek_eigenvalues` meets its contract. Assumes nothing.
use mathlib.Core.Path.{ap}
use Rattle.door.specs.Lists.{listed, lists_bytes}
use Rattle.door.proofs.manulsek_eigenvalues.Goals as goal

pub returns : goal.returns
unfolding lists_bytes
returns c = rw c.checked_number.ensures (ap (λ x. listed x.answer x.re) c.call.ensures)
