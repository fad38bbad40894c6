-- `record::page::Page::matrix` meets its contract. Assumes nothing.
use native.Mathlib.Omega.{arith}
use Rattle.header.proofs.Rooms.{square_32}
use Rattle.record.specs.Text.{matrix_lines}
use Rattle.record.proofs.Paging.{puts_within}
use Rattle.record.proofs.LineLoop.{listing_none, listing_more, listing_all, spot}
use Rattle.record.proofs.page.Page.matrix.Goals as goal

pub loop-k-init : goal.loop-k-init
loop-k-init c = listing_none _ _ _ _

pub loop-k-preserved : goal.loop-k-preserved
loop-k-preserved c = listing_more c.loop-k.invariant (omega arith) c.entry.ensures

pub entry-requires : goal.entry-requires
entry-requires c = omega (arith, spot c.args.n c.loop-k.k (omega arith), square_32 c.args.n c.requires.order)

pub returns : goal.returns
unfolding matrix_lines
returns c = puts_within (omega (arith, square_32 c.args.n c.requires.order)) (listing_all c.loop-k.invariant (omega arith))
