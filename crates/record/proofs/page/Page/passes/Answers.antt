-- `record::page::Page::passes` meets its contract. Assumes nothing.
use native.Mathlib.Omega.{arith}
use Rattle.record.specs.Text.{ascii, passes_line}
use Rattle.record.proofs.Digits.{decimal_64}
use Rattle.record.proofs.Paging.{line_puts}
use Rattle.record.proofs.page.Page.passes.Goals as goal

pub returns : goal.returns
unfolding passes_line ascii
returns c =
    line_puts c.bytes.ensures c.number.ensures c.bytes-2.ensures c.number-2.ensures c.byte.ensures
    (omega (arith, decimal_64 c.args.n (omega arith), decimal_64 c.args.passes (omega arith)))
