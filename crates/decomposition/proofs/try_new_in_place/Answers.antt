-- `decomposition::try_new_in_place` meets its contract. Assumes nothing.
use mathlib.Core.Path.{sym, ◌∙◌}
use Rattle.std.proofs.Common.{rules}
use Rattle.pass.specs.Pair.{pair}
use Rattle.decomposition.proofs.CheckedArguments.{all_right, all_lent, sizes_fit}
use Rattle.decomposition.proofs.Promised.{promised, refused_first}
use Rattle.decomposition.proofs.Touched.{run_judged}
use Rattle.decomposition.proofs.try_new_in_place.Goals as goal

pub decompose-requires : goal.decompose-requires
decompose-requires c =
    let r = all_right _ _ _ _ (sym c.check_arguments.ensures ∙ c.in_ok-check_arguments.was) in
    sizes_fit r.some r.order (all_lent _ _ _ _ _ r.lent)

pub returns-in_err-check_arguments-clause-work_after : goal.returns-in_err-check_arguments-clause-work_after
returns-in_err-check_arguments-clause-work_after c =
    refused_first _ _ _ (pair _ _) _ (sym c.check_arguments.ensures ∙ c.in_err-check_arguments.was) (search rules)

pub returns : goal.returns
returns c =
    let x = c.args in
    let passed = sym c.check_arguments.ensures ∙ c.in_ok-check_arguments.was in
    let whole = c.decompose.ensures.judged ∙ sym (run_judged _ _ _ _ (pair _ _) _ passed) in
    let kept = promised x.asked x.budget x.t.now (pair x.t.now x.q.now) x.work.now (pair _ _) whole in
    record { work_after = search (rules, whole); below_budget = kept.0; shaped = search (rules, kept.1) }
