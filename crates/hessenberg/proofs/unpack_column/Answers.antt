-- `hessenberg::unpack_column` meets its contract. Assumes nothing.
use native.Mathlib.Omega.{arith}
use Rattle.loops.specs.Part.{on_part}
use Rattle.hessenberg.proofs.Column.{column_made}
use Rattle.hessenberg.proofs.unpack_column.Goals as goal

pub returns : goal.returns
unfolding on_part
returns c =
    let x = c.args in
    rw (c.fill.ensures, c.modulus.ensures)
    (column_made x.n x.j x.work.now x.hess.now (omega arith) (omega arith) (omega arith))
