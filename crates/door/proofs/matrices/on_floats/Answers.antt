-- `door::matrices::on_floats` meets its contract. Assumes nothing.
use native.Mathlib.Omega.{arith}
use lib.ListN.{length}
use mathlib.Core.Path.{ap, ◌∙◌}
use Prim.Native.Nat.{◌*◌}
use Rattle.matrix.proofs.Each.{zeros-length}
use Rattle.pass.specs.Pair.{pair}
use Rattle.decomposition.specs.Decomposition.{settlement}
use Rattle.words.proofs.Between.{floats_length, decoded, encoded}
use Rattle.door.proofs.MatrixLengths.{MatrixFit, matrix_fit, run_fits_lem}
use Rattle.door.proofs.MatrixBytes.{ran}
use Rattle.door.proofs.matrices.on_floats.Goals.{Start}
use Rattle.door.proofs.matrices.on_floats.Goals as goal

fit : (c : Start) → let x = c.args in MatrixFit x.r (length x.m.now) (length x.t.now) (length x.q.now)
fit c = matrix_fit _ c.args.m.now _ _ c.requires.passed

pub write_q-requires : goal.write_q-requires
write_q-requires c =
    λ e. omega (arith, (fit (goal.at.write_q-requires c).Start).q e, ap length c.requires.for_q, zeros-length (c.args.r.order * c.args.r.order))

pub returns : goal.returns
returns c =
    let x = c.args in
    let pre = c.requires in
    let floats = decoded x.m.now x.a.now _ (fit (goal.at.returns c).Start).matrix pre.matrix c.decode.ensures in
    ran x.r x.m.now _ _ x.c.now x.work.now c.do_decompose-ran.result (pair _ _) (settlement _ _) _ x.q.now _
    c.from-asked.ensures floats pre.for_q pre.workspace
    (run_fits_lem (fit (goal.at.returns c).Start)
    (ap length floats ∙ floats_length x.m.now _ (fit (goal.at.returns c).Start).matrix) (ap length pre.workspace ∙ zeros-length _))
    c.do_decompose-ran.ensures.q_after c.decide-answer.ensures
    (encoded _ x.t.now c.encode.ensures.b_after (omega (arith, (fit (goal.at.returns c).Start).t)))
    c.write_q.ensures.q_after (c.encode.ensures.read_back (omega (arith, (fit (goal.at.returns c).Start).t))) c.write_q.ensures.q_read_back
