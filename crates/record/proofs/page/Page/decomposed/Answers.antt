-- `record::page::Page::decomposed` meets its contract. Assumes nothing.
use native.Mathlib.Omega.{arith}
use Rattle.record.specs.Answer.{decomposed_text}
use Rattle.record.proofs.Paging.{puts_within}
use Rattle.record.proofs.page.Page.decomposed.Goals as goal

pub returns-in-Ok : goal.returns-in-Ok
unfolding decomposed_text
returns-in-Ok c = rw c.in-Ok.is c.accepted.ensures

pub returns-in-Err : goal.returns-in-Err
unfolding decomposed_text
returns-in-Err c = rw c.in-Err.is (puts_within (omega arith) c.refused.ensures)
