-- What the private functions of the kernels do. Nothing here need be believed: the public contracts cite `Reflected`
-- alone.
use Rattle.std.specs.Prelude.{ℕ, ◌+◌, ◌*◌, ◌<◌, ◌≤◌, ◌≡◌, List, length, set, Float}
use Rattle.loops.specs.Rounded.{◌⊕◌, ◌⊗◌, ◌!◌}
use Rattle.loops.specs.Times.{times}
use Rattle.matrix.specs.Product.{along}
use Rattle.reflection.specs.declared.rows.Four.{Four}
use Rattle.reflection.specs.declared.rows.Eight.{Eight}

-- r is the place of row i of column j in a matrix of order n, and so many `rows` from there on lie in the column
pub record PlaceOf (n i j rows r : ℕ) : Type 0 where
  pub is : r ≡ j * n + i
  pub inside : j * n + i + rows ≤ n * n
  pub small : n * n ≤ 4096

-- the first `rows` rows, and as many columns from c0 on as a is long, lie in the matrix t of order n; a is not empty
pub record RowsFit (n rows c0 : ℕ) (a t : List Float) : Type 0 where
  pub order : n ≤ 64
  pub size : length t ≡ n * n
  pub in_rows : rows ≤ n
  pub in_cols : c0 + length a ≤ n
  pub some : 0 < length a

-- the numbers of t from o on, as many as a is long: f times that of a, plus s times what stands
unfoldable pub axpy_of : Float → List Float → Float → ℕ → List Float → List Float
axpy_of f a s o t = times (λ i u. set u (o + i) (f ⊗ (a ! i) ⊕ s ⊗ (u ! (o + i)))) (length a) t

-- four sums, one for each of four rows
abbrev pub four : Float → Float → Float → Float → Four
four w0 w1 w2 w3 = record { w0 = w0; w1 = w1; w2 = w2; w3 = w3 }

-- the four numbers of t from p on, times x; the same added to w
abbrev pub four_times : List Float → ℕ → Float → Four
four_times t p x = four ((t ! p) ⊗ x) ((t ! (p + 1)) ⊗ x) ((t ! (p + 2)) ⊗ x) ((t ! (p + 3)) ⊗ x)

abbrev pub four_plus : List Float → ℕ → Float → Four → Four
four_plus t p x w =
    four (w.w0 ⊕ (t ! p) ⊗ x) (w.w1 ⊕ (t ! (p + 1)) ⊗ x) (w.w2 ⊕ (t ! (p + 2)) ⊗ x) (w.w3 ⊕ (t ! (p + 3)) ⊗ x)

-- the rows from i to i + 3 times a
unfoldable pub four_along : (a : List Float) → (n c0 : ℕ) → (t : List Float) → (i : ℕ) → Four
four_along a n c0 t i =
    four (along a n c0 t i) (along a n c0 t (i + 1)) (along a n c0 t (i + 2)) (along a n c0 t (i + 3))

-- the four numbers of t from p on: f times the row's sum, plus s times what stands
abbrev pub four_put : Float → Four → Float → ℕ → List Float → List Float
four_put f w s p t =
    set (set (set (set t p (f ⊗ w.w0 ⊕ s ⊗ (t ! p))) (p + 1) (f ⊗ w.w1 ⊕ s ⊗ (t ! (p + 1)))) (p + 2)
    (f ⊗ w.w2 ⊕ s ⊗ (t ! (p + 2)))) (p + 3) (f ⊗ w.w3 ⊕ s ⊗ (t ! (p + 3)))

-- the same for eight rows, as the upper four and the lower
abbrev pub eight_times : List Float → ℕ → Float → Eight
eight_times t p x = record { upper = four_times t p x; lower = four_times t (p + 4) x }

abbrev pub eight_plus : List Float → ℕ → Float → Eight → Eight
eight_plus t p x w = record { upper = four_plus t p x w.upper; lower = four_plus t (p + 4) x w.lower }

abbrev pub eight_along : (a : List Float) → (n c0 : ℕ) → (t : List Float) → (i : ℕ) → Eight
eight_along a n c0 t i = record { upper = four_along a n c0 t i; lower = four_along a n c0 t (i + 4) }

abbrev pub eight_put : Float → Eight → Float → ℕ → List Float → List Float
eight_put f w s p t = four_put f w.lower s (p + 4) (four_put f w.upper s p t)
