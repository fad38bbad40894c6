-- `record::page::Page::eigenvalues` meets its contract. Assumes nothing.
use native.Mathlib.Omega.{arith}
use Rattle.record.specs.Text.{eigenvalue_lines}
use Rattle.record.proofs.LineLoop.{listing_none, listing_more, listing_all}
use Rattle.record.proofs.page.Page.eigenvalues.Goals as goal

pub loop-k-init : goal.loop-k-init
loop-k-init c = listing_none _ _ _ _

pub loop-k-preserved : goal.loop-k-preserved
loop-k-preserved c = listing_more c.loop-k.invariant (omega arith) c.eigenvalue.ensures

pub returns : goal.returns
unfolding eigenvalue_lines
returns c = listing_all c.loop-k.invariant (omega arith)
