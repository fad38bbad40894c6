-- One double-shift pass over a window of three or more rows (document 01, step 6; docs/SUMS.md, 7.7).
use Rattle.std.specs.Prelude.{ℕ, ◌+◌, ◌-◌, min, cond, ◌&&◌, List, [], ◌∷◌, leb, length, set, Float}
use Rattle.loops.specs.Constants.{zero, one}
use Rattle.loops.specs.Place.{place}
use Rattle.loops.specs.Rounded.{◌⊕◌, ◌⊖◌, ◌⊗◌, ◌!◌}
use Rattle.loops.specs.Table.{table}
use Rattle.loops.specs.Times.{range}
use Rattle.matrix.specs.Fits.{block_fits}
use Rattle.matrix.specs.Sum.{bare}
use Rattle.reflection.specs.Reflected.{reflected, reflected_rows}
use Rattle.householder.specs.Axis.{axis_of}
use Rattle.window.specs.declared.Window.{Window}
use Rattle.pass.specs.declared.setting.Setting.{Setting}
use Rattle.pass.specs.Pair.{Pair, pair, on_q}

-- ---- the columns whose axes a pass uses

-- The first three entries of the first column of (T - a)(T - b), where a and b are the two shifts: the eigenvalues of
-- the window's last block of two, of which only sum and product are needed. All is read before anything is changed.
unfoldable pub first_column : (n start end : ℕ) → (t : List Float) → List Float
first_column n s e t =
    let m = e - 1 in
    let h11 = t ! place n s s in
    let h12 = t ! place n s (s + 1) in
    let h21 = t ! place n (s + 1) s in
    let h22 = t ! place n (s + 1) (s + 1) in
    let h32 = t ! place n (s + 2) (s + 1) in
    let hnn = t ! place n e e in
    let hmm = t ! place n m m in
    let tra = hnn ⊕ hmm in
    let det = hnn ⊗ hmm ⊖ (t ! place n e m) ⊗ (t ! place n m e) in
    (h11 ⊗ h11 ⊕ h12 ⊗ h21 ⊖ tra ⊗ h11 ⊕ det) ∷ (h21 ⊗ (h11 ⊕ h22 ⊖ tra)) ∷ (h21 ⊗ h32) ∷ []

-- the bulge at k: so many entries of column k - 1 from row k on
unfoldable pub bulge : (n k rows : ℕ) → (t : List Float) → List Float
bulge n k rows t = table rows (λ i. t ! place n (k + i) (k - 1))

-- at the start the first column, past it the bulge
unfoldable pub column_at : (n start k : ℕ) → (first t : List Float) → List Float
column_at n s k first t = cond (leb k s) first (bulge n k 3 t)

-- ---- one step of a pass

-- what the reflection makes of column k - 1 is put there: the norm in row k, and +0 in the other rows that the axis,
-- of that length, covers
unfoldable pub swept : (n k rows : ℕ) → (x : Float) → (t : List Float) → List Float
swept n k rows x t = range (λ i t. set t (place n i (k - 1)) zero) (k + 1) (k + rows) (set t (place n k (k - 1)) x)

-- past the first step of a pass that began at `start`
unfoldable pub swept_past : (n start k rows : ℕ) → (x : Float) → (t : List Float) → List Float
swept_past n s k rows x t = cond (leb k s) t (swept n k rows x t)

-- both sides by the axis a from row and column k on: the rows of T in all columns to the order, then the columns of T
-- in its first `rows` rows; and the columns of Q in all its rows
unfoldable pub reflected_at : Setting → (k rows : ℕ) → (a : List Float) → Pair → Pair
reflected_at asked k rows a p =
    let n = asked.order in
    pair (reflected_rows a one n rows k (reflected bare a one n k k n p.t))
    (on_q asked.wanted (reflected_rows a one n n k) p.q)

-- T's columns are reflected in the rows down to k + 3, or to the window's end
abbrev pub rows_at : (k end : ℕ) → ℕ
rows_at k e = min (k + 4) (e + 1)

-- The step at k by the column c, in a pass over the window w. Where the axis answers that there is no reflection,
-- nothing is done.
unfoldable pub step_at : Setting → Window → (k : ℕ) → (c : List Float) → Pair → Pair
step_at asked w k c p =
    let r = axis_of bare c in
    let there = pair (swept_past asked.order w.start k (length c) r.norm p.t) p.q in
    cond r.reflected (reflected_at asked k (rows_at k w.end) r.axis there) p

-- ---- the pass

-- the step at k by three numbers
unfoldable pub chased : Setting → Window → (first : List Float) → (k : ℕ) → Pair → Pair
chased asked w first k p = step_at asked w k (column_at asked.order w.start k first p.t) p

-- the last step, by two
unfoldable pub closing : Setting → Window → Pair → Pair
closing asked w p = let k = w.end - 1 in step_at asked w k (bulge asked.order k 2 p.t) p

unfoldable pub pass_here : Setting → Window → Pair → Pair
pass_here asked w p =
    let first = first_column asked.order w.start w.end p.t in
    closing asked w (range (chased asked w first) w.start (w.end - 1) p)

-- the same for every window: nothing is done where it is none of three rows or more of the matrix
unfoldable pub pass_of : Setting → Window → Pair → Pair
pass_of asked w p =
    cond (block_fits asked.order (length p.t) (w.end + 1) (w.end + 1) && leb (w.start + 2) w.end)
    (pass_here asked w p) p
