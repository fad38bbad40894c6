-- `record::page::Page::passed` meets its contract. Assumes nothing.
use mathlib.Core.Path.{sym}
use native.Mathlib.Omega.{arith}
use Rattle.record.specs.Answer.{matrix_text}
use Rattle.words.proofs.Between.{fresh_zeros, fresh_length}
use Rattle.header.proofs.Rooms.{square_32}
use Rattle.record.proofs.page.Page.passed.Goals as goal

pub decompose-answer-requires : goal.decompose-answer-requires
decompose-answer-requires c =
    let s = square_32 c.args.h.order c.requires.order in
    record {
      whole = c.requires.whole;
      square_t = sym (fresh_length _ 1024 s);
      zero_q = fresh_zeros _ 1024 s;
      zero_work = fresh_zeros _ 64 (omega arith);
    }

pub decomposed-requires : goal.decomposed-requires
decomposed-requires c = omega (arith, fresh_length _ 1024 (square_32 c.args.h.order c.requires.order))

pub returns : goal.returns
unfolding matrix_text
returns c = rw (← c.decompose-answer.ensures) c.decomposed.ensures
