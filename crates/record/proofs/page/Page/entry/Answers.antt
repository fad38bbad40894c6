-- `record::page::Page::entry` meets its contract. Assumes nothing.
use native.Mathlib.Omega.{arith}
use Rattle.record.specs.Text.{entry_line}
use Rattle.record.proofs.Digits.{decimal_32}
use Rattle.record.proofs.Paging.{line_puts}
use Rattle.record.proofs.page.Page.entry.Goals as goal

pub returns : goal.returns
unfolding entry_line
returns c =
    line_puts c.byte.ensures c.number.ensures c.number-2.ensures c.pattern.ensures c.byte-2.ensures
    (omega (arith, decimal_32 c.args.row (omega arith), decimal_32 c.args.col (omega arith)))
