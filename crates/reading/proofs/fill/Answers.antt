-- Each read stands behind those that were made before it.
use Rattle.std.proofs.Common.{refl, ap, ◌∙◌, Ok, arith}
use Rattle.std.proofs.lemmas.Result.{err_from_is_err_and}
use Rattle.reading.proofs.Going.{again, ending, failing}
use Rattle.reading.proofs.fill.Goals as goal

pub loop-done-init : goal.loop-done-init
loop-done-init g c = record { size = refl; lent = refl; upto = omega arith; reads = λ rest. (rest, refl) }

pub returns-in_err-more : goal.returns-in_err-more
returns-in_err-more g c =
    let p = err_from_is_err_and c.from_residual.result c.from_residual.ensures.1 in
    rw (p.1, p.2) (failing _ _ _ _ (omega arith) c.min-room.ensures c.after_read.ensures c.loop-done.invariant c.read-got.new.buf
    c.read-got.auto.buf c.in_err-more.was)

pub returns-in_default : goal.returns-in_default
returns-in_default g c =
    ending _ _ _ _ (omega arith) c.min-room.ensures c.after_read.ensures c.loop-done.invariant c.read-got.new.buf
    c.read-got.auto.buf (c.in_ok-more.was ∙ ap Ok c.in_default.is)

pub loop-done-preserved : goal.loop-done-preserved
loop-done-preserved g c =
    again _ _ _ _ (omega arith) c.min-room.ensures c.after_read.ensures c.loop-done.invariant c.read-got.new.buf
    c.read-got.auto.buf (c.in_ok-more.was ∙ ap Ok c.in-Some.is) c.put.ensures (omega arith)
