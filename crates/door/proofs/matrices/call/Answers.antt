-- `door::matrices::call` meets its contract. Assumes nothing.
use mathlib.Core.Path.{sym, ◌∙◌}
use Rattle.door.proofs.MatrixBytes.{decompose_ran}
use Rattle.door.proofs.matrices.call.Goals as goal

pub returns : goal.returns
returns c =
    let ran = decompose_ran _ _ _ _ (sym c.check_arguments.ensures ∙ c.in_ok-check_arguments.was) c.run.ensures in
    record { q_after = ran.0; accepted_bytes = ran.1 }
