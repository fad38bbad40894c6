-- `header::read_header` meets its contract. Assumes nothing.
use mathlib.Core.Path.{◌∙◌}
use Rattle.words.proofs.Chunks.{le64_bytes}
use Rattle.header.specs.Record.{header_of}
use Rattle.header.proofs.Fields.{le16_bytes, le32_bytes}
use Rattle.header.proofs.read_header.Goals as goal

pub returns : goal.returns
unfolding header_of
returns c =
    let b = c.args.b.now in
    rw (
      c.into.ensures ∙ c.from_le_bytes-length.ensures,
      c.into-2.ensures ∙ c.from_le_bytes-kind.ensures,
      c.into-3.ensures ∙ c.from_le_bytes-order.ensures,
      c.into-4.ensures ∙ c.from_le_bytes-budget.ensures,
      c.from_le_bytes-tolerance.ensures,
      c.bytes.ensures,
      c.bytes-2.ensures,
      c.bytes-3.ensures,
      c.bytes-4.ensures,
      c.bytes-5.ensures,
      le32_bytes b 0,
      le16_bytes b 4,
      le16_bytes b 6,
      le32_bytes b 8,
      le64_bytes b 12,
    )
