-- The kernels keep the length, and every entry outside their block. Assumes nothing.
use Prim.Native.Nat.{ℕ, ◌+◌, ◌<◌}
use mathlib.Core.Path.{◌≡◌}
use mathlib.Core.List.{List}
use lib.ListN.{length}
use lib.Ieee.{Float}
use Rattle.loops.specs.Place.{place, Inside}
use Rattle.loops.specs.Rounded.{◌!◌}
use Rattle.matrix.specs.Sum.{Order}
use Rattle.matrix.proofs.Kernels.{on_entries-length, on_entries_frame}
use Rattle.reflection.specs.Reflected.{reflected, reflected_rows}

pub reflected-length : (sum : Order) (a : List Float) (s : Float) (n row c0 c1 : ℕ) (t : List Float) → length (reflected sum a s n row c0 c1 t) ≡ length t
unfolding reflected
reflected-length sum a s n row c0 c1 t = on_entries-length _ _ _ _ _ _ _

pub reflected_frame : (sum : Order) (a : List Float) (s : Float) (n row c0 c1 : ℕ) (t : List Float) (i j : ℕ) → i < n
    → (Inside row (row + length a) c0 c1 i j → ⊥)
    → reflected sum a s n row c0 c1 t ! place n i j ≡ t ! place n i j
unfolding reflected
reflected_frame sum a s n row c0 c1 t i j l out = on_entries_frame _ _ _ _ _ _ _ i j l out

pub reflected_rows-length : (a : List Float) (s : Float) (n rows c0 : ℕ) (t : List Float) → length (reflected_rows a s n rows c0 t) ≡ length t
unfolding reflected_rows
reflected_rows-length a s n rows c0 t = on_entries-length _ _ _ _ _ _ _

pub reflected_rows_frame : (a : List Float) (s : Float) (n rows c0 : ℕ) (t : List Float) (i j : ℕ) → i < n → (Inside 0 rows c0 (c0 + length a) i j → ⊥)
    → reflected_rows a s n rows c0 t ! place n i j ≡ t ! place n i j
unfolding reflected_rows
reflected_rows_frame a s n rows c0 t i j l out = on_entries_frame _ _ _ _ _ _ _ i j l out
