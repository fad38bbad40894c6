-- `plain::block_of` meets its contract. Assumes nothing.
use mathlib.Core.Path.{refl}
use Rattle.pass.specs.Block.{block_at}
use Rattle.plain.proofs.block_of.Goals as goal

pub returns : goal.returns
unfolding block_at
returns c = refl
