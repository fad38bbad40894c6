-- What a rotation does to two rows, and to two columns, of a matrix of order n (docs/SUMS.md, 5.5 and 5.6).
use Rattle.std.specs.Prelude.{ℕ, ◌+◌, cond, List, eqb, Float}
use Rattle.std.specs.Float.Ieee.{neg}
use Rattle.loops.specs.Place.{place}
use Rattle.loops.specs.Rounded.{◌⊕◌, ◌⊖◌, ◌⊗◌, ◌!◌}
use Rattle.matrix.specs.Entries.{Rule, on_entries}
use Rattle.givens.specs.declared.Rotation.{Rotation}

-- Rows i and i + 1: of a above b, the upper becomes a * c - s * b and the lower s * a + b * c.
unfoldable pub turned_rows : Rotation → (n i : ℕ) → (t : List Float) → Rule
turned_rows r n i t i' j _ =
    let a = t ! place n i j in
    let b = t ! place n (i + 1) j in
    cond (eqb i' i) (a ⊗ r.c ⊖ r.s ⊗ b) (r.s ⊗ a ⊕ b ⊗ r.c)

-- the columns from c0 to below c1 of these two rows
unfoldable pub rotated : Rotation → (n i c0 c1 : ℕ) → (t : List Float) → List Float
rotated r n i c0 c1 t = on_entries n i (i + 2) c0 c1 (turned_rows r n i t) t

-- Columns k and k + 1: of a left of b, the left becomes a * c + s * b and the right (-s) * a + b * c.
unfoldable pub turned_columns : Rotation → (n k : ℕ) → (t : List Float) → Rule
turned_columns r n k t i j _ =
    let a = t ! place n i k in
    let b = t ! place n i (k + 1) in
    cond (eqb j k) (a ⊗ r.c ⊕ r.s ⊗ b) (neg r.s ⊗ a ⊕ b ⊗ r.c)

-- the first `rows` rows of these two columns
unfoldable pub rotated_rows : Rotation → (n k rows : ℕ) → (t : List Float) → List Float
rotated_rows r n k rows t = on_entries n 0 rows k (k + 2) (turned_columns r n k t) t
