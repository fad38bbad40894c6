-- `record::page::Page::pattern` meets its contract. Assumes nothing.
use mathlib.Core.Path.{ap}
use Rattle.record.specs.Text.{hexadecimal}
use Rattle.record.proofs.Paging.{puts_as, both_puts}
use Rattle.record.proofs.page.Page.pattern.Goals as goal

pub returns : goal.returns
returns c = both_puts c.byte.ensures (puts_as (ap hexadecimal c.bits_of.ensures.value) c.hexadecimal.ensures)
