-- `door::lists::run` meets its contract. Assumes nothing.
use native.Mathlib.Omega.{arith}
use Rattle.door.proofs.ListLengths.{list_fit}
use Rattle.door.proofs.lists.run.Goals as goal

pub in_rooms-requires-2 : goal.in_rooms-requires-2
in_rooms-requires-2 g c =
    let fit = list_fit _ _ c.args.m.now _ _ c.requires in
    record {
      matrix = omega (arith, fit.small);
      for_matrix = omega arith;
      list = omega (arith, fit.order);
      for_list = omega arith;
      second = omega (arith, fit.order);
      for_second = omega arith;
      passed = c.requires;
    }
