-- `words::floats::decode` meets its contract. Assumes nothing.
use Rattle.std.proofs.Common.{◌≡◌, take, map}
use Rattle.words.specs.Inner.{float_of}
use Rattle.words.proofs.floats.decode.Given as goal

abbrev pub invariant-loop-k : goal.invariant-loop-k
invariant-loop-k l = take l.k l.a ≡ map float_of (take l.k l.words)
