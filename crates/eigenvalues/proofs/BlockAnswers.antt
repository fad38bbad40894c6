-- What a block answers and the eigenvalue of a row, told of what a routine has in hand. Assumes nothing.
use Prim.Native.Nat.{ℕ, ◌+◌, ◌-◌, ◌*◌, ◌<◌, ◌≤◌}
use mathlib.Core.Bool.{Bool, true, false, not, ◌&&◌}
use mathlib.Core.Path.{◌≡◌, refl, ap, ◌∙◌}
use mathlib.Core.List.{List}
use native.Mathlib.Omega.{arith}
use borrow.Author.Tests.{ltb-true, lt-ltb, le-ltb, ne_eqb}
use lib.ListN.{length}
use lib.Ieee.{Float, le}
use Rattle.loops.specs.Constants.{zero}
use Rattle.loops.specs.Place.{place}
use Rattle.loops.specs.Rounded.{◌!◌}
use Rattle.scalar.specs.Class.{is_zero, is_finite}
use Rattle.matrix.specs.Entries.{entry_of}
use Rattle.matrix.proofs.Fitting.{both}
use Rattle.matrix.proofs.Kernels.{entry_of_there}
use Rattle.pass.specs.Block.{block_at, discriminant}
use Rattle.eigenvalues.specs.declared.block.Parts.{Parts}
use Rattle.eigenvalues.specs.declared.block.BlockAnswer.{BlockAnswer}
use Rattle.eigenvalues.specs.declared.block.BlockAnswer.TheVariants.{One, Pair}
use Rattle.eigenvalues.specs.Blocks.{paired, pair_of, answer_at, not_complex, follows, answer_before, eigenvalue_at}
use Rattle.eigenvalues.specs.Readers.{not_finite_at}

-- ---- whether a block of two stands at k

-- not in the last row
pub paired_last : (n : ℕ) (t : List Float) (k : ℕ) → k + 1 ≡ n → false ≡ paired n t k
unfolding paired
paired_last n t k e = rw (le-ltb (k + 1) n (omega arith))

-- above it the entry just below the diagonal decides
pub paired_by : (n : ℕ) (t : List Float) (k : ℕ) → k + 1 < n → not (is_zero (t ! place n (k + 1) k)) ≡ paired n t k
unfolding paired
paired_by n t k l = rw (lt-ltb (k + 1) n l)

-- it has its second row
pub paired_inside : (n : ℕ) (t : List Float) (k : ℕ) → paired n t k ≡ true → k + 1 < n
unfolding paired
paired_inside n t k h = ltb-true (k + 1) n (both _ _ h).0

-- what is known of an entry that is read
pub ruleset blocks = (entry_of_there, paired_inside)

-- ---- its entries, by the total read

pub block_read : (n k : ℕ) (t : List Float) → n ≤ 64 → length t ≡ n * n → k + 1 < n
    → (record { h00 = entry_of n k k t; h10 = entry_of n (k + 1) k t; h01 = entry_of n k (k + 1) t; h11 = entry_of n (k + 1) (k + 1) t }) ≡ block_at n k t
unfolding block_at
block_read n k t o s l =
    let h : k < n = omega arith in
    rw (entry_of_there n k k t o s h h, entry_of_there n (k + 1) k t o s l h, entry_of_there n k (k + 1) t o s h l, entry_of_there n (k + 1) (k + 1) t o s l l)

-- ---- what it answers

pub answer_pair : (n : ℕ) (t : List Float) (k : ℕ) → paired n t k ≡ true → Pair (pair_of (block_at n k t)) ≡ answer_at n t k
unfolding answer_at
answer_pair n t k h = rw h

pub answer_one : (n : ℕ) (t : List Float) (k : ℕ) → paired n t k ≡ false → One (t ! place n k k) ≡ answer_at n t k
unfolding answer_at
answer_one n t k h = rw h

-- where none stands there is nothing to refuse, and else the discriminant decides
pub complex_none : (n : ℕ) (t : List Float) (k : ℕ) → paired n t k ≡ false → false ≡ not_complex n t k
unfolding not_complex
complex_none n t k h = rw h

pub complex_by : (n : ℕ) (t : List Float) (k : ℕ) → paired n t k ≡ true → not (le (discriminant (block_at n k t)) zero) ≡ not_complex n t k
unfolding not_complex
complex_by n t k h = rw h

-- ---- row by row: the answer of the row before, and the eigenvalue by that and the row's own

pub before_first : (n : ℕ) (t : List Float) → One zero ≡ answer_before n t 0
unfolding answer_before
before_first n t = refl

pub before_next : (n : ℕ) (t : List Float) (k : ℕ) → answer_at n t k ≡ answer_before n t (k + 1)
unfolding answer_before
before_next n t k = let e : k + 1 - 1 ≡ k = omega arith in rw (ne_eqb (k + 1) 0 (λ z. omega arith), e)

pub eigenvalue_by : (n : ℕ) (t : List Float) (k : ℕ) (before here : BlockAnswer) → before ≡ answer_before n t k → here ≡ answer_at n t k
    → follows before here ≡ eigenvalue_at n t k
unfolding eigenvalue_at
eigenvalue_by n t k before here e h = rw (e, h)

-- whether it is finite
pub finite_by : (n : ℕ) (t : List Float) (k : ℕ) (before here : BlockAnswer) (e : Parts) (r : Bool) → before ≡ answer_before n t k → here ≡ answer_at n t k
    → e ≡ follows before here
    → r ≡ (is_finite e.re && is_finite e.im) → not r ≡ not_finite_at n t k
unfolding not_finite_at
finite_by n t k before here e r p q h f = ap not (f ∙ ap (λ e. is_finite e.re && is_finite e.im) (h ∙ eigenvalue_by n t k before here p q))
