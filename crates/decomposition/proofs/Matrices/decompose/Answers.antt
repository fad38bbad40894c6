-- `decomposition::Matrices::decompose` meets its contract. Assumes nothing.
use mathlib.Core.Path.{◌∙◌}
use Rattle.decomposition.specs.Decomposition.{settlement}
use Rattle.decomposition.proofs.Judging.{ran_there, work_there, judged_by}
use Rattle.decomposition.proofs.Matrices.decompose.Goals as goal

pub returns-clause-judged : goal.returns-clause-judged
returns-clause-judged c =
    let fits = c.requires in
    judged_by _ _ _ _ _ _ (settlement _ _) (c.do_decompose-ran.ensures.q_after ∙ ran_there _ _ _ _ fits) c.decide.ensures.decided (c.do_decompose-ran.ensures.work_after
    ∙ work_there _ _ _ fits)
