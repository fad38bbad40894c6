-- `eigenvalues::readers::first_value_not_finite` meets its contract. Assumes nothing.
use native.Mathlib.Omega.{arith}
use mathlib.Core.Bool.{not}
use mathlib.Core.Path.{◌≡◌, sym, ◌∙◌}
use Rattle.refusal.proofs.Searching.{sought_none, sought_more}
use Rattle.eigenvalues.specs.Readers.{not_finite_at}
use Rattle.eigenvalues.proofs.BlockAnswers.{before_first, before_next, finite_by}
use Rattle.eigenvalues.proofs.DiagonalSearch.{place_here, place_none}
use Rattle.std.proofs.Common.{ap}
use Rattle.eigenvalues.proofs.readers.first_value_not_finite.Goals.{After-is_finite}
use Rattle.eigenvalues.proofs.readers.first_value_not_finite.Goals as goal

tested : (c : After-is_finite)
    → not c.is_finite.result ≡ not_finite_at c.args.n c.args.t.now c.loop-k.k
tested c =
    finite_by _ _ _ _ _ _ _ c.loop-k.invariant.answered c.answer_at-here.ensures c.eigenvalue.ensures c.is_finite.ensures

pub returns-then-not-is_finite : goal.returns-then-not-is_finite
returns-then-not-is_finite c =
    place_here c.loop-k.invariant.sought (omega arith) (sym (tested (goal.at.returns-then-not-is_finite c).After-is_finite) ∙ (ap not c.if-not-is_finite.true))

pub loop-k-preserved : goal.loop-k-preserved
loop-k-preserved c =
    record {
      sought = sought_more c.loop-k.invariant.sought (omega arith) (sym (tested (goal.at.loop-k-preserved c).After-is_finite) ∙ (ap not c.if-not-is_finite.false));
      answered = c.answer_at-here.ensures ∙ before_next _ _ _;
    }

pub loop-k-init : goal.loop-k-init
loop-k-init c = record { sought = sought_none _ _ 0 (omega arith); answered = before_first _ _ }

pub returns : goal.returns
returns c = place_none c.loop-k.invariant.sought (omega arith)
