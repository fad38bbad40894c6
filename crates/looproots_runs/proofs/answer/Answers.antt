-- What was read lies within the room for it.
use Rattle.std.proofs.Common.{sym}
use Rattle.std.proofs.Math.Seq.{length-take-le}
use Rattle.reading.proofs.Filling.{within}
use Rattle.looproots_runs.proofs.answer.Goals as goal

pub slice_bounds-input-end : goal.slice_bounds-input-end
slice_bounds-input-end c = within c.fill.ensures c.in-Ok.is

pub slice_bounds-print-end : goal.slice_bounds-print-end
slice_bounds-print-end c = sym (length-take-le _ _ (within c.fill.ensures c.in-Ok.is))
