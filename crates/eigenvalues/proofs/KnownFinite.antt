-- The readers of entries that are known to be finite: where the entries pass, it makes no difference that they are not looked at. Assumes nothing.
use Rattle.std.specs.Prelude.{Err, Ok}
use Prim.Native.Nat.{ℕ}
use mathlib.Core.Path.{◌≡◌, refl, ap}
use mathlib.Core.List.{List}
use lib.Ieee.{Float}
use Rattle.refusal.specs.Refusal.{Checked, passed, ◌next◌}
use Rattle.refusal.specs.Checks.{entry_checks, given_checks}
use Rattle.eigenvalues.specs.Readers.{readable, finite_readable, pair_check, diagonal_by, real_checks, real_read, real_finite_of, block_checks, eigenvalues_by}
use Rattle.eigenvalues.specs.Readers.{complex_checks, complex_read, complex_finite_of}

-- the last of three checks passes, and another stands behind them
next_without : (a b c d : Checked) → c ≡ passed → (a next b next d) ≡ ((a next b next c) next d)
unfolding ◌next◌
next_without (Ok u) (Ok v) c d h = rw h
next_without (Ok u) (Err r) c d h = refl
next_without (Err r) b c d h = refl

module _ (n : ℕ) (t : List Float) where
  -- what both readers check
  pub readable_finite : (lengths : Checked) → entry_checks n t ≡ passed → finite_readable lengths n t ≡ readable lengths n t
  unfolding finite_readable readable given_checks
  readable_finite lengths h = next_without _ lengths _ _ h

  pub real_finite : (values : List Float) → entry_checks n t ≡ passed → real_finite_of n t values ≡ real_read n t values
  unfolding real_finite_of real_read real_checks
  real_finite values h = ap (λ c. diagonal_by (c next pair_check n t) n t values) (readable_finite _ h)

  pub complex_finite : (re im : List Float) → entry_checks n t ≡ passed → complex_finite_of n t re im ≡ complex_read n t re im
  unfolding complex_finite_of complex_read complex_checks
  complex_finite re im h = ap (λ c. eigenvalues_by (c next block_checks n t) n t re im) (readable_finite _ h)
