-- `decomposition::try_new` meets its contract. Assumes nothing.
use mathlib.Core.Path.{◌≡◌, sym, ap, ◌∙◌}
use lib.ListN.{length}
use Rattle.std.proofs.Common.{rules}
use Rattle.matrix.proofs.Copied.{copied_whole}
use Rattle.pass.specs.Pair.{pair}
use Rattle.schur.specs.Run.{ran_of, run_fits}
use Rattle.decomposition.specs.Decomposition.{judged}
use Rattle.decomposition.proofs.CheckedArguments.{Sizes, all_right, all_lent, sizes_fit}
use Rattle.decomposition.proofs.Promised.{promised, refused_first}
use Rattle.decomposition.proofs.Touched.{run_judged}
use Rattle.decomposition.proofs.try_new.Goals.{After-copy_from, In_ok-check_arguments}
use Rattle.decomposition.proofs.try_new.Goals as goal

-- the checks have told the lengths
sizes : (c : In_ok-check_arguments) → let x = c.args in
    Sizes x.asked.order (length x.m.now) (length x.t.now) (length x.work.now)
sizes c = all_lent _ _ _ _ _ (all_right _ _ _ _ (sym c.check_arguments.ensures ∙ c.in_ok-check_arguments.was)).lent

-- so T is then a copy of the matrix
copied : (c : After-copy_from) → let x = c.args in c.copy_from.new.t ≡ x.m.now
copied c =
    let lent = (all_right _ _ _ _ (sym c.check_arguments.ensures ∙ c.in_ok-check_arguments.was)).lent in
    c.copy_from.ensures ∙ copied_whole _ _ (all_lent _ _ _ _ _ lent).alike

pub decompose-requires : goal.decompose-requires
decompose-requires c =
    let x = c.args in
    let r = all_right _ _ _ _ (sym c.check_arguments.ensures ∙ c.in_ok-check_arguments.was) in
    let z = sizes (goal.at.decompose-requires c).In_ok-check_arguments in
    ap (λ k. run_fits x.asked.order k (length x.work.now)) (ap length (copied (goal.at.decompose-requires c).After-copy_from) ∙ z.alike) ∙ sizes_fit r.some r.order z

pub returns-in_err-check_arguments-clause-work_after : goal.returns-in_err-check_arguments-clause-work_after
returns-in_err-check_arguments-clause-work_after c =
    refused_first _ _ _ (pair _ _) _ (sym c.check_arguments.ensures ∙ c.in_err-check_arguments.was) (search rules)

pub returns : goal.returns
returns c =
    let x = c.args in
    let passed = sym c.check_arguments.ensures ∙ c.in_ok-check_arguments.was in
    let here = ap (λ t. judged x.asked (ran_of x.asked x.budget (pair t x.q.now) x.work.now) x.work.now) (copied (goal.at.returns c).After-copy_from) in
    let whole = c.decompose.ensures.judged ∙ here ∙ sym (run_judged _ _ _ _ (pair _ _) _ passed) in
    let kept = promised x.asked x.budget x.m.now (pair x.t.now x.q.now) x.work.now (pair _ _) whole in
    record { work_after = search (rules, whole); below_budget = kept.0; shaped = search (rules, kept.1) }
