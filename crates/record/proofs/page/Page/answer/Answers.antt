-- `record::page::Page::answer` meets its contract. Assumes nothing.
use native.Mathlib.Omega.{arith}
use Rattle.record.specs.Answer.{eigenvalues_text}
use Rattle.record.proofs.Paging.{puts_within}
use Rattle.record.proofs.page.Page.answer.Goals as goal

pub returns-in-Ok : goal.returns-in-Ok
unfolding eigenvalues_text
returns-in-Ok c = rw c.in-Ok.is (puts_within (omega arith) c.eigenvalues.ensures)

pub returns-in-Err : goal.returns-in-Err
unfolding eigenvalues_text
returns-in-Err c = rw c.in-Err.is (puts_within (omega arith) c.not_read.ensures)
