-- `plain::Loan::copied` meets its contract. Assumes nothing.
use Rattle.refusal.specs.Refusal.{passed}
use mathlib.Core.Path.{ap, ◌∙◌}
use Rattle.std.proofs.Common.{arith}
use Rattle.std.proofs.lemmas.Grind.{common_steps}
use Rattle.matrix.proofs.Copied.{copied_whole}
use Rattle.plain.specs.Plain.{plain_begun, kept}
use Rattle.plain.proofs.Loan.copied.Goals as goal

pub returns : goal.returns
returns g c =
    let l = c.args.self.now in
    record {
      is = ap (λ p. kept p) c.any.ensures.is
          ∙ ap (λ t. kept (plain_begun passed l.n t l.values.now l.work.now)) (c.copy_from.ensures ∙ copied_whole _ _ (grind (arith, common_steps)));
      same = c.any.ensures.same;
    }
