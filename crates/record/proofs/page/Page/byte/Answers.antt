-- `record::page::Page::byte` meets its contract. Assumes nothing.
use mathlib.Core.Path.{refl}
use Rattle.record.proofs.Paging.{byte_puts}
use Rattle.record.proofs.page.Page.byte.Goals as goal

pub returns : goal.returns
returns c = byte_puts c.args.b refl refl refl
