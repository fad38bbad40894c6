-- A matrix of order 0 has nothing to assemble. Assumes nothing.
use Prim.Native.Nat.{ℕ, ◌-◌}
use mathlib.Core.Path.{◌≡◌, refl, sym, ◌∙◌}
use mathlib.Core.Bool.{Bool, cond, ◌&&◌}
use mathlib.Core.List.{List}
use lib.Dec.{eqb, leb}
use lib.ListN.{length}
use lib.Ieee.{Float}
use Rattle.loops.specs.Constants.{zero, one}
use Rattle.loops.specs.Down.{down, down_none}
use Rattle.loops.specs.Tests.{cond_hold}
use Rattle.matrix.specs.Entries.{in_block, on_entries}
use Rattle.matrix.specs.Fits.{block_fits}
use Rattle.matrix.proofs.Blocks.{in_block_no_columns}
use Rattle.householder.specs.Assembled.{identity, with_axis, assembled}

identity_empty : (q : List Float) → identity 0 q ≡ q
unfolding identity on_entries
identity_empty q =
    cond_hold (λ s. s ≡ q) (block_fits 0 (length q) 0 0) (in_block 0 0 0 0 0 (λ i j _. cond (eqb i j) one zero) q) q (λ _. in_block_no_columns 0 0 0 0 _ q) refl

pub assembled_empty : (n : ℕ) (m signs q : List Float) → n ≡ 0 → q ≡ assembled n m signs q
unfolding assembled
assembled_empty n m signs q e =
    let whole : Bool = block_fits 0 (length m) 0 0 && (block_fits 0 (length q) 0 0 && leb (0 - 1) (length signs)) in
    rw e (sym (cond_hold (λ s. s ≡ q) whole (down (with_axis 0 m signs) (0 - 1) (identity 0 q)) q (λ _. down_none (with_axis 0 m signs) (identity 0 q)
    ∙ identity_empty q) refl))
