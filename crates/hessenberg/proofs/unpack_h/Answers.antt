-- `hessenberg::unpack_h` meets its contract. Assumes nothing.
use native.Mathlib.Omega.{arith}
use Rattle.matrix.proofs.Blocks.{in_block_behind}
use Rattle.matrix.proofs.Fitting.{from_row_0}
use Rattle.matrix.proofs.Walks.{down_begun, down_more, down_done}
use Rattle.matrix.specs.Entries.{on_entries}
use Rattle.hessenberg.specs.Unpacked.{unpacked_h}
use Rattle.std.proofs.lemmas.Grind.{common_steps}
use Rattle.std.specs.Prelude.{not}
use Rattle.std.proofs.Common.{ap}
use Rattle.hessenberg.proofs.unpack_h.Goals as goal

pub returns-then-not-block_fits : goal.returns-then-not-block_fits
unfolding unpacked_h on_entries
returns-then-not-block_fits c = grind (arith, common_steps)

pub loop-j-init : goal.loop-j-init
loop-j-init c = down_begun _ _ _ _ _ _ _ (from_row_0 _ _ _ _ c.block_fits.ensures) (ap not c.if-not-block_fits.false)

pub loop-j-preserved : goal.loop-j-preserved
loop-j-preserved c =
    let inv = c.loop-j.invariant in
    down_more inv (omega arith) (rw (c.unpack_column.ensures, inv.done) (in_block_behind _ _ _ _ _ _ _ (omega arith)))

pub returns : goal.returns
unfolding unpacked_h
returns c = grind (arith, common_steps, down_done c.loop-j.invariant (omega arith))
