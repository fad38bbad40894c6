-- `record::text::answer` meets its contract. Assumes nothing.
use mathlib.Core.Path.{refl, sym, ◌∙◌}
use native.Mathlib.Omega.{arith}
use Rattle.std.proofs.Common.{rules}
use Rattle.record.proofs.Paging.{none_printed, printed_by, prefix_by}
use Rattle.record.proofs.text.answer.Goals as goal

pub returns-then-text-lt65536 : goal.returns-then-text-lt65536
returns-then-text-lt65536 c = record {
  text_after = none_printed _ c.args.text.now c.if-text-lt65536.true;
  prefix_len = (omega arith, refl);
}

-- the page is the lent slice all the way
pub returns : goal.returns
returns c =
    let same = sym (c.input.ensures.same_slice ∙ c.new-page.ensures.same_slice) in
    record {
      text_after = printed_by (omega arith) c.new-page.ensures.empty c.input.ensures c.len.ensures (search (rules, same));
      prefix_len = prefix_by (omega arith) c.new-page.ensures.empty c.input.ensures c.len.ensures (search (rules, same));
    }
