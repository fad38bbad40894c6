-- A reflection of both sides, by portions: the columns that the rows' reflection reads and rewrites, then the rows, then the columns right of those.
-- That leaves what all columns and then the rows leave. Assumes nothing.
use Prim.Native.Nat.{ℕ, ◌+◌, ◌-◌, ◌*◌, ◌≤◌, ◌<◌}
use mathlib.Core.Path.{◌≡◌, refl, sym, ap, ◌∙◌}
use mathlib.Core.List.{List}
use native.Mathlib.Decide.{dec_lt}
use native.Mathlib.Omega.{arith}
use lib.ListN.{length}
use lib.Ieee.{Float}
use Rattle.loops.specs.Constants.{minus_two}
use Rattle.loops.specs.Place.{place, Inside}
use Rattle.loops.specs.Rounded.{◌⊕◌, ◌⊗◌, ◌!◌}
use Rattle.matrix.specs.Sum.{bare}
use Rattle.matrix.specs.Product.{along}
use Rattle.matrix.proofs.Blocks.{same_entries}
use Rattle.matrix.proofs.Kernels.{on_entries_alike}
use Rattle.matrix.proofs.Sums.{bare_same}
use Rattle.reflection.specs.Reflected.{down, mirrored_columns, reflected, mirrored_rows, reflected_rows}
use Rattle.reflection.proofs.Frames.{reflected-length, reflected_frame, reflected_rows-length, reflected_rows_frame}

module _ (a : List Float) (s : Float) (n k : ℕ) (h : n ≤ 64) (fit : k + length a ≤ n) where
  -- a column that two matrices have in common, and that both have reflected or neither
  columns_alike : (c0 c1 d0 d1 : ℕ) (t u : List Float) (i j : ℕ) → length t ≡ n * n → length u ≡ n * n → c1 ≤ n → d1 ≤ n → i < n
      → (Inside k (k + length a) c0 c1 i j → Inside k (k + length a) d0 d1 i j) → (Inside k (k + length a) d0 d1 i j → Inside k (k + length a) c0 c1 i j)
      → ((r : ℕ) → r < n → t ! place n r j ≡ u ! place n r j) → reflected bare a s n k c0 c1 t ! place n i j ≡ reflected bare a s n k d0 d1 u ! place n i j
  unfolding reflected mirrored_columns down
  columns_alike c0 c1 d0 d1 t u i j size size' c d l to from same =
      on_entries_alike n k (k + length a) c0 c1 d0 d1 _ _ t u i j h size size' fit c d l to from (same i l)
      (ap (λ x. x ⊗ (s ⊗ minus_two) ⊗ (a ! (i - k)) ⊕ s ⊗ (t ! place n i j))
      (bare_same (length a) _ _ (λ r b. ap (λ x. (a ! r) ⊗ x) (same (k + r) (omega arith))))
      ∙ ap (λ x. down bare a n k u j ⊗ (s ⊗ minus_two) ⊗ (a ! (i - k)) ⊕ s ⊗ x) (same i l))

  -- a row that two matrices have in common, to the last column that its reflection reads
  rows_alike : (rows : ℕ) (t u : List Float) (i j : ℕ) → length t ≡ n * n → length u ≡ n * n → rows ≤ n → i < n → j < k + length a
      → ((c : ℕ) → c < k + length a → t ! place n i c ≡ u ! place n i c)
      → reflected_rows a s n rows k t ! place n i j ≡ reflected_rows a s n rows k u ! place n i j
  unfolding reflected_rows mirrored_rows along
  rows_alike rows t u i j size size' r l q same =
      on_entries_alike n 0 rows k (k + length a) k (k + length a) _ _ t u i j h size size' r fit fit l (λ o. o) (λ o. o) (same j q)
      (ap (λ x. s ⊗ minus_two ⊗ (a ! (j - k)) ⊗ x ⊕ s ⊗ (t ! place n i j)) (bare_same (length a) _ _ (λ c b. ap (λ x. x ⊗ (a ! c)) (same (k + c) (omega arith))))
      ∙ ap (λ x. s ⊗ minus_two ⊗ (a ! (j - k)) ⊗ along a n k u i ⊕ s ⊗ x) (same j q))

  module _ (rows : ℕ) (t : List Float) (size : length t ≡ n * n) (r : rows ≤ n) where
    abbrev near : List Float
    near = reflected bare a s n k k (k + length a) t

    abbrev whole : List Float
    whole = reflected bare a s n k k n t

    abbrev turned : List Float
    turned = reflected_rows a s n rows k near

    size_near : length near ≡ n * n
    size_near = reflected-length bare a s n k k (k + length a) t ∙ size

    size_whole : length whole ≡ n * n
    size_whole = reflected-length bare a s n k k n t ∙ size

    size_turned : length turned ≡ n * n
    size_turned = reflected_rows-length a s n rows k near ∙ size_near

    -- left of the last portion
    near_alike : (i j : ℕ) → i < n → j < k + length a → near ! place n i j ≡ whole ! place n i j
    near_alike i j l q = columns_alike k (k + length a) k n t t i j size size fit (omega arith) l (λ o. omega arith) (λ o. omega arith) (λ i' l'. refl)

    turned_alike : (i j : ℕ) → i < n → j < k + length a → turned ! place n i j ≡ reflected_rows a s n rows k whole ! place n i j
    turned_alike i j l q = rows_alike rows near whole i j size_near size_whole r l q (λ c q'. near_alike i c l q')

    -- in it
    unturned : (i j : ℕ) → i < n → k + length a ≤ j → turned ! place n i j ≡ t ! place n i j
    unturned i j l q =
        reflected_rows_frame a s n rows k near i j l (λ o. omega arith) ∙ reflected_frame bare a s n k k (k + length a) t i j l (λ o. omega arith)

    pub near_first : reflected bare a s n k (k + length a) n turned ≡ reflected_rows a s n rows k whole
    near_first =
        same_entries n (reflected bare a s n k (k + length a) n turned) (reflected_rows a s n rows k whole)
        (reflected-length bare a s n k (k + length a) n turned ∙ size_turned)
        (reflected_rows-length a s n rows k whole ∙ size_whole) (λ i j l m. cases i j l (dec_lt j (k + length a)))
      where
        cases : (i j : ℕ) → i < n → Dec (j < k + length a) → reflected bare a s n k (k + length a) n turned ! place n i j
            ≡ reflected_rows a s n rows k whole ! place n i j
        cases i j l (yes b) = reflected_frame bare a s n k (k + length a) n turned i j l (λ o. omega arith) ∙ turned_alike i j l b
        cases i j l (no b) =
            columns_alike (k + length a) n k n turned t i j size_turned size (omega arith) (omega arith) l (λ o. omega arith) (λ o. omega arith)
            (λ i' l'. unturned i' j l' (omega arith))
            ∙ sym (reflected_rows_frame a s n rows k whole i j l (λ o. omega arith))
