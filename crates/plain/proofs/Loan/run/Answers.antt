-- `plain::Loan::run` meets its contract. Assumes nothing.
use native.Mathlib.Omega.{arith}
use Rattle.std.proofs.Common.{rules}
use mathlib.Core.Path.{sym, ap, ◌∙◌}
use Rattle.decomposition.proofs.CheckedArguments.{judged_work}
use Rattle.eigenvalues.proofs.Real.{diagonal_fits}
use Rattle.plain.proofs.Plainly.{run_fits_lem, run_refused, run_read}
use Rattle.plain.proofs.Loan.run.Goals as goal

pub returns-in_err-decompose : goal.returns-in_err-decompose
returns-in_err-decompose c =
    let left = c.decompose.ensures in
    record {
      told = run_refused _ _ _ (sym (ap (λ o. o.answer) left) ∙ c.in_err-decompose.was) (search rules);
      left = ap (λ o. o.pair.t) left;
      cleared = ap (λ o. o.work) left ∙ judged_work _ _ _;
      same = search rules;
    }

pub returns : goal.returns
returns c =
    let left = c.decompose.ensures in
    let z = c.args.self.now.sized in
    let here = c.diagonal_if_real.ensures ∙ diagonal_fits _ _ _ z.some z.order (omega arith) (omega arith) in
    record {
      told = run_read _ _ _ _ (sym (ap (λ o. o.answer) left) ∙ c.in_ok-decompose.was) (ap (λ o. o.pair.t) left) here;
      left = ap (λ o. o.pair.t) left;
      cleared = ap (λ o. o.work) left ∙ judged_work _ _ _;
      same = search rules;
    }

pub decompose-requires : goal.decompose-requires
decompose-requires c = rw c.requires (run_fits_lem c.args.self.now.sized)
