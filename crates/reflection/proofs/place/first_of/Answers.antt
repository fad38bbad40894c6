-- `reflection::place::first_of` meets its contract. Assumes nothing.
use native.Mathlib.Omega.{arith}
use Rattle.loops.specs.Place.{Column, column}
use Rattle.reflection.proofs.place.first_of.Goals.{Start}
use Rattle.reflection.proofs.place.first_of.Goals as goal

bounds : (c : Start) → Column c.args.n c.args.j
bounds c = column c.args.n c.args.j (omega arith) (omega arith)

pub overflow_mul-result : goal.overflow_mul-result
overflow_mul-result c = omega (arith, bounds c)

pub overflow_add-result : goal.overflow_add-result
overflow_add-result c = omega (arith, bounds c)

pub returns : goal.returns
returns c = omega (arith, bounds c)
