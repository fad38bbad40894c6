-- The readers' definitions as the code makes its checks, one behind those that have come to one; `made` names them for the check. Assumes nothing.
use Rattle.std.specs.Prelude.{Err, Ok}
use Prim.Native.Nat.{ℕ, ◌*◌}
use mathlib.Core.Path.{◌≡◌, refl}
use mathlib.Core.List.{List}
use lib.ListN.{length}
use lib.Ieee.{Float}
use Rattle.refusal.specs.declared.refusal.Refusal.{Refusal}
use Rattle.refusal.specs.declared.refusal.Refusal.TheVariants.{WrongLength, ResultNotFinite, ShapeSpoiled, ComplexEigenvalues, BlockNotComplex}
use Rattle.refusal.specs.Refusal.{Checked, refuse, refuse_at, ◌next◌, if_passed}
use Rattle.refusal.specs.Search.{first_on_diagonal, first_spoiling}
use Rattle.refusal.specs.Checks.{order_checks, length_check, entry_checks, given_checks}
use Rattle.refusal.proofs.ChecksInTurn.{in_turn}
use Rattle.eigenvalues.specs.Blocks.{not_complex}
use Rattle.eigenvalues.specs.Readers.{shape_check, readable, finite_readable, any_paired, pair_check, real_checks, read, left_by, diagonal_by, real_lengths}
use Rattle.eigenvalues.specs.Readers.{real_read, real_finite_of, diagonal_if_real, not_finite_at, block_checks, complex_checks, eigenvalues_by, complex_lengths}
use Rattle.eigenvalues.specs.Readers.{complex_read, complex_finite_of}
use Rattle.eigenvalues.proofs.Real.{real_held}
use Rattle.eigenvalues.proofs.ReaderChecks.{order_ready, real_ready, complex_ready}

-- ---- what is left of a list

pub written : {A : Type 0} (u : Unit {0}) (x y : A) → if_passed (Ok u) x y ≡ x
unfolding if_passed
written u x y = refl

pub untouched : {A : Type 0} (r : Refusal) (x y : A) → if_passed (Err r) x y ≡ y
unfolding if_passed
untouched r x y = refl

pub left_made : (c : Checked) (v values : List Float) → left_by (read c v) values ≡ read c (if_passed c v values)
unfolding left_by
left_made c v values = refl

module _ (n : ℕ) (t : List Float) where
  -- ---- the last checks of each

  pub pair_made : pair_check n t ≡ refuse (any_paired n t) ComplexEigenvalues
  unfolding pair_check
  pair_made = refl

  pub blocks_made : block_checks n t
      ≡ (refuse_at BlockNotComplex (first_on_diagonal (not_complex n t) n) next refuse_at ResultNotFinite (first_on_diagonal (not_finite_at n t) n))
  unfolding block_checks
  blocks_made = refl

  -- ---- the real reader

  module _ (values : List Float) where
    abbrev sizes : Checked
    sizes = length_check WrongLength (length t) (n * n) next length_check WrongLength (length values) n

    pub real_made : real_read n t values
        ≡ diagonal_by (((order_checks n next sizes next entry_checks n t) next refuse_at ShapeSpoiled (first_spoiling n t)) next pair_check n t) n t values
    unfolding real_read real_checks readable given_checks shape_check real_lengths
    real_made = refl

    pub real_finite_made : real_finite_of n t values
        ≡ diagonal_by ((order_checks n next sizes next refuse_at ShapeSpoiled (first_spoiling n t)) next pair_check n t) n t values
    unfolding real_finite_of finite_readable shape_check real_lengths
    real_finite_made = refl

    pub diagonal_made : diagonal_if_real n t values ≡ diagonal_by (order_checks n next sizes next pair_check n t) n t values
    unfolding diagonal_if_real real_lengths
    diagonal_made = refl

  -- ---- the complex reader

  module _ (re im : List Float) where
    abbrev complex_sizes : Checked
    complex_sizes =
        length_check WrongLength (length t) (n * n) next length_check WrongLength (length re) n next length_check WrongLength (length im) n

    pub complex_made : complex_read n t re im
        ≡ eigenvalues_by (((order_checks n next complex_sizes next entry_checks n t) next refuse_at ShapeSpoiled (first_spoiling n t)) next block_checks n t)
        n t re im
    unfolding complex_read complex_checks readable given_checks shape_check complex_lengths
    complex_made = refl

    pub complex_finite_made : complex_finite_of n t re im
        ≡ eigenvalues_by ((order_checks n next complex_sizes next refuse_at ShapeSpoiled (first_spoiling n t)) next block_checks n t) n t re im
    unfolding complex_finite_of finite_readable shape_check complex_lengths
    complex_finite_made = refl

pub ruleset made = (
  in_turn,
  written,
  untouched,
  left_made,
  pair_made,
  blocks_made,
  real_made,
  real_finite_made,
  diagonal_made,
  complex_made,
  complex_finite_made,
  real_held,
  order_ready,
  real_ready,
  complex_ready,
)
