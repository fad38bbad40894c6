-- `record::page::Page::not_read` meets its contract. Assumes nothing.
use Rattle.record.specs.Text.{ascii}
use Rattle.record.proofs.Paging.{both_puts}
use Rattle.record.proofs.page.Page.not_read.Goals as goal

pub returns : goal.returns
unfolding ascii
returns c = both_puts c.bytes.ensures c.refused.ensures
