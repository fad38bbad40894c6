use Rattle.std.proofs.Common.{◌-◌, length}
use Rattle.reading.proofs.Going.{Going}
use Rattle.reading.proofs.fill.Given as goal

-- whatever reads are still to come: with those made before them, they make of the room as it was what they make of it now
abbrev pub invariant-loop-done : goal.invariant-loop-done
invariant-loop-done g l = Going l.initial.buf l.buf l.piece l.done

abbrev pub decreases-loop-done : goal.decreases-loop-done
decreases-loop-done g l = length l.initial.buf - l.done
