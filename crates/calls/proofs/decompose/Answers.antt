-- `calls::decompose` meets its contract. Assumes nothing.
use Rattle.calls.proofs.Calling.{decomposition_came}
use Rattle.calls.proofs.decompose.Goals as goal

pub returns : goal.returns
returns c =
    decomposition_came _ _ _ _ _ _ _ _ _ _ _ c.try_new.ensures.work_after c.decomposed.ensures
