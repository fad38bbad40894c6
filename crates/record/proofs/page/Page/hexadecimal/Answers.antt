-- `record::page::Page::hexadecimal` meets its contract. Assumes nothing.
use mathlib.Core.Path.{◌∙◌}
use native.Mathlib.Omega.{arith}
use Rattle.record.proofs.Digits.{hexadecimal_digits, hexadecimal-length}
use Rattle.record.proofs.page.Page.hexadecimal.Goals as goal

pub returns : goal.returns
returns c =
    let made = c.hex-k.ensures.digits ∙ hexadecimal_digits _ _ (omega arith) c.hex-k.ensures.len in rw (made, hexadecimal-length) at c.bytes.ensures
