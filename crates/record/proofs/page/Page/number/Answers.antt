-- `record::page::Page::number` meets its contract. Assumes nothing.
use Rattle.record.proofs.Paging.{both_puts}
use Rattle.record.proofs.page.Page.number.Goals as goal

pub returns : goal.returns
returns c = both_puts c.byte.ensures c.decimal.ensures
