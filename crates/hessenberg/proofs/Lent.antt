-- What lent memory held is not felt: the reduction, H and Q are the same whatever the workspace held, and whatever stood in Q's place. Assumes nothing.
use Prim.Native.Nat.{ℕ, zero, suc, ◌+◌, ◌*◌, ◌-◌, ◌<◌, ◌≤◌}
use mathlib.Core.Path.{◌≡◌, refl, sym, ap, ◌∙◌}
use mathlib.Core.Bool.{cond}
use mathlib.Core.List.{List}
use native.Mathlib.Decide.{dec_lt}
use native.Mathlib.Omega.{arith}
use borrow.Author.Tests.{eq-eqb}
use lib.Dec.{eqb, leb}
use lib.ListN.{length}
use lib.Seq.{get_or-set_same, get_or-set_other}
use lib.Ieee.{Float, nan}
use Rattle.loops.specs.Constants.{zero as zero_f}
use Rattle.loops.specs.Part.{part, on_part, part_length, part_at, on_part-length, on_part_after}
use Rattle.loops.specs.Rounded.{◌!◌}
use Rattle.loops.specs.Times.{times, times_none, times_more}
use Rattle.scalar.specs.Sign.{modulus_of}
use Rattle.matrix.specs.Fits.{block_fits}
use Rattle.matrix.specs.Entries.{on_entries}
use Rattle.matrix.proofs.Fitting.{fitting}
use Rattle.matrix.proofs.Blocks.{in_block_same}
use Rattle.householder.specs.Cleared.{Cleared, clear_of}
use Rattle.householder.proofs.Frames.{clear_of_work}
use Rattle.householder.proofs.Lent.{SameCleared, clear_lent, assembled_lent}
use Rattle.hessenberg.specs.Reduced.{Reduction, reduction, reduce_column, work_fits, reduced}
use Rattle.hessenberg.specs.Unpacked.{of_h, unpacked_h, unpacked_q}
use Rattle.hessenberg.proofs.Frames.{reduce_column_work}

-- ---- a column: its norm is kept at n + k, and those before it stay

abbrev column_of : (n k : ℕ) → Reduction → Cleared
column_of n k r = clear_of n k r.matrix (part 0 n r.work)

norm_stays : (n k : ℕ) (r : Reduction) (j : ℕ) → length r.work ≡ 2 * n → k < n → j < k → (reduce_column n k r).work ! (n + j) ≡ r.work ! (n + j)
unfolding reduce_column
norm_stays n k r j room l m =
    let lent : List Float → List Float = λ w. (clear_of n k r.matrix w).work in
    get_or-set_other (on_part lent 0 n r.work) (n + k) (n + j) (column_of n k r).norm nan (omega arith)
    ∙ on_part_after lent 0 n r.work (n + j) nan (omega arith) (omega arith) (λ s. clear_of_work n k r.matrix s) (omega arith)

norm_kept : (n k : ℕ) (r : Reduction) → length r.work ≡ 2 * n → k < n → (reduce_column n k r).work ! (n + k) ≡ (column_of n k r).norm
unfolding reduce_column
norm_kept n k r room l =
    let lent : List Float → List Float = λ w. (clear_of n k r.matrix w).work in
    let long = on_part-length lent 0 n r.work (omega arith) (omega arith) (λ s. clear_of_work n k r.matrix s) in
    get_or-set_same (on_part lent 0 n r.work) (n + k) (column_of n k r).norm nan (omega arith)

matrix_is : (n k : ℕ) (r : Reduction) → (reduce_column n k r).matrix ≡ (column_of n k r).matrix
unfolding reduce_column
matrix_is n k r = refl

-- ---- two reductions after k columns: one matrix, and the norms kept so far

pub record Alike (n k : ℕ) (x y : Reduction) : Type 0 where
  pub matrix : x.matrix ≡ y.matrix
  pub room : length x.work ≡ 2 * n
  pub room' : length y.work ≡ 2 * n
  pub norms : (j : ℕ) → j < k → x.work ! (n + j) ≡ y.work ! (n + j)

module _ (n k : ℕ) (x y : Reduction) (l : k < n) (a : Alike n k x y) where
  lent_long : length (part 0 n x.work) ≡ length (part 0 n y.work)
  lent_long =
      part_length 0 n x.work (omega arith) (omega (arith, a.room)) ∙ sym (part_length 0 n y.work (omega arith) (omega (arith, a.room')))

  column_same : SameCleared (column_of n k x) (column_of n k y)
  column_same =
      let here = clear_lent n k x.matrix (part 0 n x.work) (part 0 n y.work) lent_long in
      let there = ap (λ t. clear_of n k t (part 0 n y.work)) a.matrix in
      record { matrix = here.matrix ∙ ap (λ c. c.matrix) there; norm = here.norm ∙ ap (λ c. c.norm) there }

  column_alike : Alike n (k + 1) (reduce_column n k x) (reduce_column n k y)
  column_alike = record {
    matrix = matrix_is n k x ∙ column_same.matrix ∙ sym (matrix_is n k y);
    room = reduce_column_work n k x (omega (arith, a.room)) ∙ a.room;
    room' = reduce_column_work n k y (omega (arith, a.room')) ∙ a.room';
    norms = λ j m. each j (dec_lt j k) m;
  }
    where
      each : (j : ℕ) → Dec (j < k) → j < k + 1 → (reduce_column n k x).work ! (n + j) ≡ (reduce_column n k y).work ! (n + j)
      each j (yes m) u = norm_stays n k x j a.room l m ∙ a.norms j m ∙ sym (norm_stays n k y j a.room' l m)
      each j (no m) u =
          let last : j ≡ k = omega arith in
          rw last (norm_kept n k x a.room l ∙ column_same.norm ∙ sym (norm_kept n k y a.room' l))

-- ---- the reduction of one matrix, with one workspace or another

module _ (n : ℕ) (t w w' : List Float) (room : length w ≡ 2 * n) (room' : length w' ≡ 2 * n) where
  times_alike : (k : ℕ) → k ≤ n → Alike n k (times (reduce_column n) k (reduction t w)) (times (reduce_column n) k (reduction t w'))
  times_alike zero l =
      rw (times_none (reduce_column n) (reduction t w), times_none (reduce_column n) (reduction t w'))
      (record { matrix = refl; room = room; room' = room'; norms = λ j m. absurd (omega arith) })
  times_alike (suc k) l =
      let next : suc k ≡ k + 1 = omega arith in
      rw (next, times_more (reduce_column n) k (reduction t w), times_more (reduce_column n) k (reduction t w'))
      (column_alike n k _ _ (omega arith) (times_alike k (omega arith)))

  pub reduced_lent : n ≤ 64 → length t ≡ n * n → Alike n (n - 1) (reduced n t w) (reduced n t w')
  unfolding reduced work_fits
  reduced_lent order size =
      rw (fitting n (length t) n n order size (omega arith) (omega arith), eq-eqb _ _ room, eq-eqb _ _ room') (times_alike (n - 1) (omega arith))

-- ---- H and Q, of one matrix and the norms that are kept

module _ (n : ℕ) (t w w' : List Float) (room : length w ≡ 2 * n) (room' : length w' ≡ 2 * n) (same : (j : ℕ) → j < n - 1 → w ! (n + j) ≡ w' ! (n + j)) where
  pub h_lent : unpacked_h n w t ≡ unpacked_h n w' t
  unfolding unpacked_h work_fits of_h on_entries
  h_lent =
      rw (eq-eqb _ _ room, eq-eqb _ _ room')
      (ap (λ b. cond (block_fits n (length t) n (n - 1)) b t)
      (in_block_same n 0 n 0 (n - 1) (of_h n w) (of_h n w') t
      (λ i j x d. ap (λ z. cond (leb (j + 2) i) zero_f (cond (eqb i (j + 1)) (modulus_of z) x)) (same j d.left))))

  pub q_lent : (q q' : List Float) → n ≤ 64 → length t ≡ n * n → length q ≡ n * n → length q' ≡ n * n → unpacked_q n t w q ≡ unpacked_q n t w' q'
  unfolding unpacked_q work_fits
  q_lent q q' order size size_q size_q' =
      let long = part_length n (2 * n) w (omega arith) (omega arith) in
      let long' = part_length n (2 * n) w' (omega arith) (omega arith) in
      rw (eq-eqb _ _ room, eq-eqb _ _ room')
      (assembled_lent n t (part n (2 * n) w) (part n (2 * n) w') q q' order size size_q size_q' (omega arith) (omega arith)
      (λ i u. part_at n (2 * n) w i nan (omega arith) ∙ same i u ∙ sym (part_at n (2 * n) w' i nan (omega arith))))
