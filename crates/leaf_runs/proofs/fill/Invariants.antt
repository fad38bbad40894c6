-- `leaf_runs::fill` stays within the room.
use Rattle.std.proofs.Common.{◌≤◌, length}
use Rattle.leaf_runs.proofs.fill.Given as goal

abbrev pub invariant-loop : goal.invariant-loop
invariant-loop g l = l.done ≤ length l.room
