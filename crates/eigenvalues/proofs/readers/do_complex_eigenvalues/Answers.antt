-- `eigenvalues::readers::do_complex_eigenvalues` meets its contract. Assumes nothing.
use native.Mathlib.Omega.{arith}
use mathlib.Core.Path.{ap, ◌∙◌}
use Rattle.eigenvalues.proofs.BlockAnswers.{before_first, before_next, eigenvalue_by}
use Rattle.matrix.proofs.Filled.{filled_none, filled_more, filled_done}
use Rattle.eigenvalues.proofs.readers.do_complex_eigenvalues.Goals as goal

pub loop-k-init : goal.loop-k-init
loop-k-init c = record { reals = filled_none _ _ _ (omega arith); imaginaries = filled_none _ _ _ (omega arith); answered = before_first _ _ }

pub loop-k-preserved : goal.loop-k-preserved
loop-k-preserved c =
    let l = c.loop-k in
    let e = c.eigenvalue-e.ensures ∙ eigenvalue_by _ _ _ _ _ l.invariant.answered c.answer_at-here.ensures in
    record {
      reals = filled_more l.invariant.reals (omega arith) (ap (λ p. p.re) e);
      imaginaries = filled_more l.invariant.imaginaries (omega arith) (ap (λ p. p.im) e);
      answered = c.answer_at-here.ensures ∙ before_next _ _ _;
    }

pub returns : goal.returns
returns c = record {
  re_after = filled_done c.loop-k.invariant.reals (omega arith);
  im_after = filled_done c.loop-k.invariant.imaginaries (omega arith);
}
