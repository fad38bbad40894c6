-- `record::page::Page::accepted` meets its contract. Assumes nothing.
use native.Mathlib.Omega.{arith}
use Rattle.record.specs.Answer.{decomposed_text}
use Rattle.record.proofs.Paging.{puts_within, both_puts}
use Rattle.record.proofs.page.Page.accepted.Goals as goal

pub returns : goal.returns
unfolding decomposed_text
returns c =
    let two = both_puts c.passes.ensures c.matrix.ensures in
    let three = both_puts two c.matrix-2.ensures in
    puts_within (omega arith) (both_puts three c.read.ensures)
