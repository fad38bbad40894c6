-- `plain::Loan::two` meets its contract. Assumes nothing.
use mathlib.Core.Path.{sym, ◌∙◌}
use Rattle.std.proofs.Common.{rules}
use Rattle.plain.proofs.Plainly.{two_none}
use Rattle.plain.proofs.Loan.two.Goals as goal

pub returns-in_err-v : goal.returns-in_err-v
returns-in_err-v c = record {
  told = rw (← c.block_of.ensures, ← c.compute_2x2_eigvals.ensures) (two_none _ _ (sym c.ok_or.ensures.value ∙ c.in_err-v.was) (search rules));
  cleared = c.fill.ensures;
  same = search rules;
}
