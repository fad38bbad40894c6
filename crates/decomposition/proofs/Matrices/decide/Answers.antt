-- `decomposition::Matrices::decide` meets its contract. Assumes nothing.
use mathlib.Core.Path.{sym, ◌∙◌}
use Rattle.pass.specs.Pair.{pair}
use Rattle.decomposition.proofs.Judging.{decided_filled, decided_kept}
use Rattle.decomposition.proofs.Matrices.decide.Goals as goal

pub returns-then-is_err-clause-decided : goal.returns-then-is_err-clause-decided
returns-then-is_err-clause-decided c =
    decided_filled _ _ (pair _ _) c.judge-judged.ensures
    (sym c.is_err.ensures.value ∙ c.if-is_err.true)
    c.fill_with_nan.ensures.filled

pub returns-else-is_err-clause-decided : goal.returns-else-is_err-clause-decided
returns-else-is_err-clause-decided c =
    decided_kept _ _ (pair _ _) c.judge-judged.ensures (sym c.is_err.ensures.value ∙ c.if-is_err.false)
