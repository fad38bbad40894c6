-- `record::text::room` meets its contract. Assumes nothing.
use Prim.Native.Nat.{ℕ}
use mathlib.Core.Path.{refl, sym}
use lib.ListN.{length-replicate}
use Rattle.record.proofs.text.room.Goals as goal

pub returns : goal.returns
returns c = record { zeros = refl; size = sym (length-replicate {A = ℕ} 8213 0) }
