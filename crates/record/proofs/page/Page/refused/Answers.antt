-- `record::page::Page::refused` meets its contract. Assumes nothing.
use native.Mathlib.Omega.{arith}
use Rattle.record.specs.Text.{ascii, refused_line}
use Rattle.record.specs.Lent.{Puts}
use Rattle.record.proofs.Digits.{decimal_64}
use Rattle.record.proofs.Paging.{line_puts}
use Rattle.record.proofs.page.Page.refused.Goals as goal

pub returns : goal.returns
unfolding refused_line ascii
returns c =
    let x = c.from-told.result in
    let line : Puts (refused_line x) 71 c.args.self.now c.byte.new.self =
    line_puts c.bytes.ensures c.number.ensures c.number-2.ensures c.number-3.ensures c.byte.ensures
    (omega (arith, decimal_64 x.number (omega arith), decimal_64 x.row (omega arith), decimal_64 x.col (omega arith))) in
    rw c.from-told.ensures at line
