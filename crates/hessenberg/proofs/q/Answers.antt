-- `hessenberg::q` meets its contract. Assumes nothing.
use Rattle.std.proofs.Common.{arith}
use Rattle.std.proofs.lemmas.Grind.{common_steps}
use Rattle.matrix.specs.Fits.{block_fits}
use Rattle.householder.specs.Assembled.{assembled}
use Rattle.hessenberg.specs.Unpacked.{unpacked_q}
use Rattle.hessenberg.proofs.q.Goals as goal

-- above order 64 no Q is assembled
pub returns-then-n-gt64 : goal.returns-then-n-gt64
unfolding unpacked_q assembled block_fits
returns-then-n-gt64 c = grind (arith, common_steps)
