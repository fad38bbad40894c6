-- `words::floats::encode` meets its contract. Assumes nothing.
use Rattle.std.proofs.Common.{◌≡◌, ◌*◌, take}
use Rattle.std.specs.List.{flat_map}
use Rattle.words.proofs.Bytes.{bytes}
use Rattle.words.proofs.floats.encode.Given as goal

abbrev pub invariant-loop-k : goal.invariant-loop-k
invariant-loop-k l = take (8 * l.k) l.b ≡ flat_map bytes (take l.k l.a)
