-- `record::text::decompose` meets its contract. Assumes nothing.
use Rattle.words.proofs.Between.{decoded}
use Rattle.record.specs.Answer.{decomposed}
use Rattle.record.proofs.text.decompose.Goals as goal

pub returns : goal.returns
unfolding decomposed
returns c =
    let x = c.args in
    let pre = c.requires in
    rw (c.of_bits.ensures, decoded x.entries.now x.t.now _ pre.whole pre.square_t c.decode.ensures, pre.zero_q, pre.zero_work)
    at c.try_new_in_place.ensures.work_after
