-- `door::lists::in_rooms` meets its contract. Assumes nothing.
use Rattle.door.proofs.ListLengths.{list_fit}
use Rattle.door.proofs.lists.in_rooms.Goals as goal

pub second_size-second-requires : goal.second_size-second-requires
second_size-second-requires g c = (list_fit _ _ c.args.m.now _ _ c.requires.passed).order
