-- What the check looks at in a search: how `until` ends and goes on, and what the searches are made of. Assumes nothing.
use Rattle.loops.proofs.Until.{until_out, until_stop, until_turn}
use Rattle.window.specs.Window.{stands, fall, end_from, start_from, delimit_here}

pub ruleset turns = (until_out, until_stop, until_turn)

unfoldable pub opened : Unit {0}
unfolding stands fall end_from start_from delimit_here
opened = tt
