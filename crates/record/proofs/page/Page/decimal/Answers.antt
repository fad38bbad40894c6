-- `record::page::Page::decimal` meets its contract. Assumes nothing.
use mathlib.Core.Path.{◌∙◌}
use native.Mathlib.Omega.{arith}
use Rattle.record.proofs.Digits.{decimal_digits}
use Rattle.record.proofs.page.Page.decimal.Goals as goal

pub bytes-requires : goal.bytes-requires
bytes-requires c =
    let made = c.decimal-k.ensures.digits ∙ decimal_digits _ _ (omega arith) c.decimal-k.ensures.len in rw made c.requires

pub returns : goal.returns
returns c =
    let made = c.decimal-k.ensures.digits ∙ decimal_digits _ _ (omega arith) c.decimal-k.ensures.len in rw made at c.bytes.ensures
