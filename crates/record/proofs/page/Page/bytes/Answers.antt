-- `record::page::Page::bytes` meets its contract. Assumes nothing.
use mathlib.Core.Path.{refl}
use native.Mathlib.Omega.{arith}
use Rattle.record.proofs.Paging.{piece_puts}
use Rattle.record.proofs.page.Page.bytes.Goals as goal

pub returns : goal.returns
returns c = piece_puts c.requires refl refl c.copy_from_slice.ensures.after (omega arith) refl
