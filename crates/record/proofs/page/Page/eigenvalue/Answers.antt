-- `record::page::Page::eigenvalue` meets its contract. Assumes nothing.
use native.Mathlib.Omega.{arith}
use Rattle.record.specs.Text.{ascii, eigenvalue_line}
use Rattle.record.proofs.Digits.{decimal_32}
use Rattle.record.proofs.Paging.{line_puts}
use Rattle.record.proofs.page.Page.eigenvalue.Goals as goal

pub returns : goal.returns
unfolding eigenvalue_line ascii
returns c =
    line_puts c.bytes.ensures c.number.ensures c.pattern.ensures c.pattern-2.ensures c.byte.ensures (omega (arith, decimal_32 c.args.k (omega arith)))
