-- `decomposition::Matrices::judge` meets its contract. Assumes nothing.
use mathlib.Core.Path.{sym, ◌∙◌}
use Rattle.std.proofs.Common.{arith, rules}
use Rattle.std.proofs.lemmas.Grind.{common_steps}
use Rattle.pass.specs.Pair.{pair}
use Rattle.decomposition.proofs.Judging.{judged_refused}
use Rattle.decomposition.proofs.Matrices.judge.Goals as goal

pub returns-in_err-check_result : goal.returns-in_err-check_result
returns-in_err-check_result c =
    judged_refused {ran = c.args.ran} c.args.self.now.asked c.in_ok-passes.passes (pair _ _)
    (grind (arith, common_steps))
    (sym c.check_result.ensures ∙ c.in_err-check_result.was)
    (search rules)
