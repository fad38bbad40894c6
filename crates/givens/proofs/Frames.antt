-- The two kernels keep the length, and every entry outside their two rows or columns. Assumes nothing.
use Prim.Native.Nat.{ℕ, ◌+◌, ◌<◌}
use mathlib.Core.Path.{◌≡◌}
use mathlib.Core.List.{List}
use lib.ListN.{length}
use lib.Ieee.{Float}
use Rattle.loops.specs.Place.{place, Inside}
use Rattle.loops.specs.Rounded.{◌!◌}
use Rattle.matrix.proofs.Kernels.{on_entries-length, on_entries_frame}
use Rattle.givens.specs.declared.Rotation.{Rotation}
use Rattle.givens.specs.Rotated.{rotated, rotated_rows}

pub rotated-length : (r : Rotation) (n i c0 c1 : ℕ) (t : List Float) → length (rotated r n i c0 c1 t) ≡ length t
unfolding rotated
rotated-length r n i c0 c1 t = on_entries-length _ _ _ _ _ _ _

pub rotated_frame : (r : Rotation) (n i c0 c1 : ℕ) (t : List Float) (i' j' : ℕ) → i' < n → (Inside i (i + 2) c0 c1 i' j' → ⊥)
    → rotated r n i c0 c1 t ! place n i' j' ≡ t ! place n i' j'
unfolding rotated
rotated_frame r n i c0 c1 t i' j' l out = on_entries_frame _ _ _ _ _ _ _ i' j' l out

pub rotated_rows-length : (r : Rotation) (n k rows : ℕ) (t : List Float) → length (rotated_rows r n k rows t) ≡ length t
unfolding rotated_rows
rotated_rows-length r n k rows t = on_entries-length _ _ _ _ _ _ _

pub rotated_rows_frame : (r : Rotation) (n k rows : ℕ) (t : List Float) (i' j' : ℕ) → i' < n → (Inside 0 rows k (k + 2) i' j' → ⊥)
    → rotated_rows r n k rows t ! place n i' j' ≡ t ! place n i' j'
unfolding rotated_rows
rotated_rows_frame r n k rows t i' j' l out = on_entries_frame _ _ _ _ _ _ _ i' j' l out
