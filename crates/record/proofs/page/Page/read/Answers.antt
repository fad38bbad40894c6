-- `record::page::Page::read` meets its contract. Assumes nothing.
use native.Mathlib.Omega.{arith}
use Rattle.record.specs.Answer.{read_text}
use Rattle.words.proofs.Between.{fresh_zeros, fresh_length}
use Rattle.record.proofs.page.Page.read.Goals as goal

pub answer-requires : goal.answer-requires
answer-requires c = omega (arith, fresh_length c.args.n 32 (omega arith))

pub returns : goal.returns
unfolding read_text
returns c =
    let answered = rw (fresh_zeros c.args.n 32 (omega arith)) at c.complex_eigenvalues-checked.ensures in
    rw (← answered) c.answer.ensures
