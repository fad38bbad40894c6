-- `reflection::rows::put_four` meets its contract. Assumes nothing.
use mathlib.Core.Path.{refl}
use native.Mathlib.Omega.{arith}
use lib.ListN.{length-set}
use Rattle.reflection.proofs.rows.put_four.Goals as goal

pub bounds-t-p-6 : goal.bounds-t-p-6
bounds-t-p-6 c = simp length-set (omega arith)

pub bounds-t-p-7 : goal.bounds-t-p-7
bounds-t-p-7 c = simp length-set (omega arith)

pub bounds-t-p-8 : goal.bounds-t-p-8
bounds-t-p-8 c = simp length-set (omega arith)

pub shape_of-t : goal.shape_of-t
shape_of-t c = simp length-set (omega arith)

pub returns : goal.returns
returns c = refl
