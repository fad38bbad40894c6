-- `door::matrices::run` meets its contract. Assumes nothing.
use native.Mathlib.Omega.{arith}
use Rattle.door.proofs.MatrixLengths.{matrix_fit}
use Rattle.door.proofs.matrices.run.Goals as goal

pub in_rooms-requires-2 : goal.in_rooms-requires-2
in_rooms-requires-2 c =
    let fit = matrix_fit c.args.r c.args.m.now _ _ c.requires in
    record { square = omega (arith, fit.small); is_room = omega arith; double = omega (arith, fit.order); is_workspace = omega arith; passed = c.requires }
