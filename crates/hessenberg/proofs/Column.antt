-- Column j of H: one number put just below the diagonal and zeros filled in below that follow the rule of H. Assumes nothing.
use Prim.Native.Nat.{ℕ, suc, ◌+◌, ◌*◌, ◌-◌, ◌≤◌, ◌<◌}
use mathlib.Core.Path.{◌≡◌, ap, ◌∙◌}
use mathlib.Core.List.{List}
use native.Mathlib.Decide.{dec_lt, ℕ_discrete}
use native.Mathlib.Nat.{mul-le-mul_right, suc-mul}
use native.Mathlib.Omega.{arith}
use borrow.Author.Tests.{le-leb, lt-leb, eq-eqb, ne_eqb}
use lib.ListN.{length, set, length-set}
use lib.Seq.{get_or-set_same, get_or-set_other}
use lib.Ieee.{Float, nan}
use Rattle.loops.specs.Constants.{zero}
use Rattle.loops.specs.Part.{on_part, part_length, on_part-length, on_part_before, on_part_within, on_part_after}
use Rattle.loops.specs.Place.{place, column, Inside}
use Rattle.loops.specs.Rounded.{◌!◌}
use Rattle.scalar.specs.Sign.{modulus_of}
use Rattle.matrix.specs.Entries.{in_block}
use Rattle.matrix.specs.Vectors.{filled}
use Rattle.matrix.proofs.Blocks.{in_block_is}
use Rattle.matrix.proofs.Each.{filled-length, filled_at}
use Rattle.hessenberg.specs.Unpacked.{of_h}

-- ---- the rule, above the entry just below the diagonal, there, and below it

pub of_h_above : (n : ℕ) (w : List Float) (i j : ℕ) (x : Float) → i ≤ j → of_h n w i j x ≡ x
unfolding of_h
of_h_above n w i j x h = rw (lt-leb (j + 2) i (omega arith), ne_eqb i (j + 1) (omega arith))

pub of_h_next : (n : ℕ) (w : List Float) (i j : ℕ) (x : Float) → i ≡ j + 1 → of_h n w i j x ≡ modulus_of (w ! (n + j))
unfolding of_h
of_h_next n w i j x e = rw (lt-leb (j + 2) i (omega arith), eq-eqb i (j + 1) e)

pub of_h_below : (n : ℕ) (w : List Float) (i j : ℕ) (x : Float) → j + 2 ≤ i → of_h n w i j x ≡ zero
unfolding of_h
of_h_below n w i j x h = rw (le-leb (j + 2) i h)

-- ---- what the code makes of the column

module _ (n j : ℕ) (w t : List Float) (order : n ≤ 64) (size : length t ≡ n * n) (room : j + 2 ≤ n) where
  abbrev put : List Float
  put = set t (place n (j + 1) j) (modulus_of (w ! (n + j)))

  abbrev made : List Float
  made = on_part (filled zero) (place n (j + 1) j + 1) (place n n j) put

  put-length : length put ≡ n * n
  put-length = simp length-set size

  made-length : length made ≡ n * n
  made-length =
      let b = column n j order (omega arith) in
      on_part-length (filled zero) _ _ put (omega arith) (omega (arith, put-length)) (filled-length zero) ∙ put-length

  -- what stands before the number that is put and what stands after the column is left alone
  early : (p : ℕ) → p < place n (j + 1) j → made ! p ≡ t ! p
  early p l =
      let b = column n j order (omega arith) in
      on_part_before (filled zero) _ _ put p nan (omega (arith, put-length)) (omega arith) ∙ get_or-set_other t _ p _ nan (omega arith)

  late : (p : ℕ) → place n n j ≤ p → made ! p ≡ t ! p
  late p l =
      let b = column n j order (omega arith) in
      on_part_after (filled zero) _ _ put p nan (omega arith) (omega (arith, put-length)) (filled-length zero) l ∙ get_or-set_other t _ p _ nan (omega arith)

  there : made ! place n (j + 1) j ≡ modulus_of (w ! (n + j))
  there =
      let b = column n j order (omega arith) in
      on_part_before (filled zero) _ _ put _ nan (omega (arith, put-length)) (omega arith) ∙ get_or-set_same t _ _ nan (omega arith)

  below : (i : ℕ) → i < n → j + 2 ≤ i → made ! place n i j ≡ zero
  below i h l =
      let b = column n j order (omega arith) in
      let e : place n i j ≡ place n (j + 1) j + 1 + (i - (j + 2)) = omega arith in
      let m = part_length (place n (j + 1) j + 1) (place n n j) put (omega arith) (omega (arith, put-length)) in
      ap (λ p. made ! p) e
      ∙ on_part_within (filled zero) _ _ put (i - (j + 2)) nan (omega arith) (omega (arith, put-length)) (filled-length zero) (omega arith)
      ∙ filled_at zero _ (i - (j + 2)) (omega arith)

  pub column_made : made ≡ in_block n 0 n j (j + 1) (of_h n w) t
  column_made =
      in_block_is n 0 n j (j + 1) (of_h n w) t made size made-length (omega arith) (omega arith)
      (λ i k a b at. let e : k ≡ j = omega arith in rw e (inner i a (dec_lt j i) (ℕ_discrete i (j + 1))))
      (λ i k a b out. outer i k a (dec_lt k j) (dec_lt j k) out)
    where
      inner : (i : ℕ) → i < n → Dec (j < i) → Dec (i ≡ j + 1) → made ! place n i j ≡ of_h n w i j (t ! place n i j)
      inner i a (no x) d = rw (of_h_above n w i j (t ! place n i j) (omega arith)) (early (place n i j) (omega arith))
      inner i a (yes x) (yes e) = rw (of_h_next n w i j (t ! place n i j) e, e) there
      inner i a (yes x) (no d) = rw (of_h_below n w i j (t ! place n i j) (omega arith)) (below i a (omega arith))

      outer : (i k : ℕ) → i < n → Dec (k < j) → Dec (j < k) → (Inside 0 n j (j + 1) i k → ⊥) → made ! place n i k ≡ t ! place n i k
      outer i k a (yes x) d out = early (place n i k) (omega (arith, mul-le-mul_right {m = suc k} n x, suc-mul k n))
      outer i k a (no x) (yes y) out = late (place n i k) (omega (arith, mul-le-mul_right {m = suc j} n y, suc-mul j n))
      outer i k a (no x) (no y) out = absurd (out (omega arith))
