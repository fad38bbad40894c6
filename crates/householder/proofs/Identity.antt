-- Zeros throughout and then 1 on the diagonal is the identity. Assumes nothing.
use Prim.Native.Nat.{ℕ, ◌*◌, ◌≤◌, ◌<◌}
use mathlib.Core.Path.{◌≡◌, sym, ◌∙◌}
use mathlib.Core.Bool.{cond}
use mathlib.Core.Logic.{◌≢◌}
use mathlib.Core.List.{List}
use native.Mathlib.Decide.{ℕ_discrete}
use native.Mathlib.Omega.{arith}
use borrow.Author.Tests.{eq-eqb, ne_eqb}
use lib.Dec.{eqb}
use lib.ListN.{length, set, length-set}
use lib.Seq.{get_or-set_same, get_or-set_other}
use lib.Ieee.{Float, nan}
use Rattle.loops.specs.Constants.{zero, one}
use Rattle.loops.specs.Place.{place, in_square}
use Rattle.loops.proofs.Place.{places}
use Rattle.loops.specs.Rounded.{◌!◌}
use Rattle.loops.specs.Times.{times, times-length, times_frame, times_at}
use Rattle.matrix.specs.Vectors.{filled}
use Rattle.matrix.proofs.Each.{filled-length, filled_at}
use Rattle.matrix.proofs.Blocks.{in_block_is}
use Rattle.matrix.proofs.Kernels.{on_entries_does}
use Rattle.householder.specs.Assembled.{identity}

abbrev pub ones : ℕ → ℕ → List Float → List Float
ones n i q = set q (place n i i) one

module _ (n : ℕ) (q : List Float) (order : n ≤ 64) (size : length q ≡ n * n) where
  cleared_length : length (filled zero q) ≡ n * n
  cleared_length = filled-length zero q ∙ size

  on : (i : ℕ) → i < n → times (ones n) n (filled zero q) ! place n i i ≡ one
  on i h =
      let here : length (times (ones n) i (filled zero q)) ≡ length (filled zero q) = times-length _ i _ (λ k s. simp length-set) in
      times_at (ones n) n _ i (place n i i) nan h (λ k s a b. get_or-set_other s _ _ one nan (places n i i k k h a (λ e f. omega arith)))
      ∙ get_or-set_same (times (ones n) i (filled zero q)) (place n i i) one nan (omega (arith, cleared_length, in_square n i i h h))

  off : (i j : ℕ) → i < n → j < n → i ≢ j → times (ones n) n (filled zero q) ! place n i j ≡ zero
  off i j h k d =
      times_frame (ones n) n _ (place n i j) nan (λ l s a. get_or-set_other s _ _ one nan (places n i j l l h a (λ e f. omega arith)))
      ∙ filled_at zero q (place n i j) (omega (arith, in_square n i j h k))

  pub ones-identity : times (ones n) n (filled zero q) ≡ identity n q
  unfolding identity
  ones-identity =
      in_block_is n 0 n 0 n _ q (times (ones n) n (filled zero q)) size (times-length (ones n) n _ (λ k s. simp length-set) ∙ cleared_length) (omega arith)
      (omega arith)
      (λ i j a b at. go i j a b (ℕ_discrete i j))
      (λ i j a b out. absurd (out (omega arith)))
      ∙ sym (on_entries_does n 0 n 0 n _ q order size (omega arith) (omega arith))
    where
      go : (i j : ℕ) → i < n → j < n → Dec (i ≡ j) → times (ones n) n (filled zero q) ! place n i j ≡ cond (eqb i j) one zero
      go i j a b (yes e) = rw (eq-eqb i j e, ← e) (on i a)
      go i j a b (no d) = rw (ne_eqb i j d) (off i j a b d)
