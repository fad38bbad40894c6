-- `on_entries`, the form of every kernel: the length is kept, every entry outside the block is left alone, every entry inside follows the
-- rule, and where the block does not lie in the matrix nothing happens. A kernel's own laws are these at its block and its rule.
-- `entry_of` and `put_of`, the total read and write, have theirs here too. Assumes nothing.
use Prim.Native.Nat.{ℕ, ◌+◌, ◌*◌, ◌≤◌, ◌<◌}
use mathlib.Core.Path.{◌≡◌, refl, sym, ◌∙◌}
use mathlib.Core.Bool.{cond}
use mathlib.Core.List.{List}
use native.Mathlib.Omega.{arith}
use lib.ListN.{length, set}
use lib.Ieee.{Float}
use Rattle.loops.specs.Place.{place, Inside}
use Rattle.loops.specs.Rounded.{◌!◌}
use Rattle.loops.specs.Tests.{cond_hold}
use Rattle.loops.specs.Times.{range-one}
use Rattle.matrix.specs.Fits.{block_fits}
use Rattle.matrix.specs.Entries.{Rule, in_block, on_entries, entry_of, put_of}
use Rattle.matrix.proofs.Fitting.{Fits, fits, fitting}
use Rattle.matrix.proofs.Blocks.{dec_inside, in_block-length, in_block_frame, in_block-at}

-- it keeps what the loops keep where the block lies in the matrix
pub on_entries_hold : (P : List Float → Type 0) (n r0 r1 c0 c1 : ℕ) (g : Rule) (t : List Float) → (Fits n (length t) r1 c1 → P (in_block n r0 r1 c0 c1 g t)) → P t
    → P (on_entries n r0 r1 c0 c1 g t)
unfolding on_entries
on_entries_hold P n r0 r1 c0 c1 g t h k =
    cond_hold P (block_fits n (length t) r1 c1) (in_block n r0 r1 c0 c1 g t) t (λ e. h (fits n (length t) r1 c1 e)) k

pub on_entries-length : (n r0 r1 c0 c1 : ℕ) (g : Rule) (t : List Float) → length (on_entries n r0 r1 c0 c1 g t) ≡ length t
on_entries-length n r0 r1 c0 c1 g t =
    on_entries_hold (λ s. length s ≡ length t) n r0 r1 c0 c1 g t (λ f. in_block-length n r0 r1 c0 c1 g t) refl

-- the frame: an entry outside the block
pub on_entries_frame : (n r0 r1 c0 c1 : ℕ) (g : Rule) (t : List Float) (i j : ℕ) → i < n → (Inside r0 r1 c0 c1 i j → ⊥)
    → on_entries n r0 r1 c0 c1 g t ! place n i j ≡ t ! place n i j
on_entries_frame n r0 r1 c0 c1 g t i j l out =
    on_entries_hold (λ s. s ! place n i j ≡ t ! place n i j) n r0 r1 c0 c1 g t (λ f. in_block_frame n r0 r1 c0 c1 g t i j f.in_rows l out) refl

-- where the block lies in the matrix it is the loops
pub on_entries_does : (n r0 r1 c0 c1 : ℕ) (g : Rule) (t : List Float) → n ≤ 64 → length t ≡ n * n → r1 ≤ n → c1 ≤ n
    → on_entries n r0 r1 c0 c1 g t ≡ in_block n r0 r1 c0 c1 g t
unfolding on_entries
on_entries_does n r0 r1 c0 c1 g t h k l m = rw (fitting n (length t) r1 c1 h k l m)

-- the value: an entry inside
pub on_entries-at : (n r0 r1 c0 c1 : ℕ) (g : Rule) (t : List Float) (i j : ℕ) → n ≤ 64 → length t ≡ n * n → r1 ≤ n → c1 ≤ n → Inside r0 r1 c0 c1 i j
    → on_entries n r0 r1 c0 c1 g t ! place n i j ≡ g i j (t ! place n i j)
on_entries-at n r0 r1 c0 c1 g t i j h k l m at =
    rw (on_entries_does n r0 r1 c0 c1 g t h k l m) (in_block-at n r0 r1 c0 c1 g t i j k l m at)

-- an entry that two matrices have in common, and that two kernels reach or leave alike, they also have in common afterwards
pub on_entries_alike : (n r0 r1 c0 c1 d0 d1 : ℕ) (g h : Rule) (t s : List Float) (i j : ℕ) → n ≤ 64 → length t ≡ n * n → length s ≡ n * n → r1 ≤ n → c1 ≤ n
    → d1 ≤ n → i < n
    → (Inside r0 r1 c0 c1 i j → Inside r0 r1 d0 d1 i j) → (Inside r0 r1 d0 d1 i j → Inside r0 r1 c0 c1 i j)
    → t ! place n i j ≡ s ! place n i j → g i j (t ! place n i j) ≡ h i j (s ! place n i j)
    → on_entries n r0 r1 c0 c1 g t ! place n i j ≡ on_entries n r0 r1 d0 d1 h s ! place n i j
on_entries_alike n r0 r1 c0 c1 d0 d1 g h t s i j m size size' r c d l to from same rule = cases (dec_inside r0 r1 c0 c1 i j)
  where
    cases : Dec (Inside r0 r1 c0 c1 i j) → on_entries n r0 r1 c0 c1 g t ! place n i j ≡ on_entries n r0 r1 d0 d1 h s ! place n i j
    cases (yes at) = on_entries-at n r0 r1 c0 c1 g t i j m size r c at ∙ rule ∙ sym (on_entries-at n r0 r1 d0 d1 h s i j m size' r d (to at))
    cases (no out) = on_entries_frame n r0 r1 c0 c1 g t i j l out ∙ same ∙ sym (on_entries_frame n r0 r1 d0 d1 h s i j l (λ o. out (from o)))

-- a block of one entry
pub in_block-one : (n i j : ℕ) (g : Rule) (t : List Float) → in_block n i (i + 1) j (j + 1) g t ≡ set t (place n i j) (g i j (t ! place n i j))
unfolding in_block
in_block-one n i j g t = range-one _ _ _ ∙ range-one _ _ _

-- ---- one entry read, one entry put

pub entry_of_there : (n i j : ℕ) (t : List Float) → n ≤ 64 → length t ≡ n * n → i < n → j < n → entry_of n i j t ≡ t ! place n i j
unfolding entry_of
entry_of_there n i j t o s h k = rw (fitting n (length t) (i + 1) (j + 1) o s (omega arith) (omega arith))

pub put_of-length : (n i j : ℕ) (x : Float) (t : List Float) → length (put_of n i j x t) ≡ length t
unfolding put_of
put_of-length n i j x t = on_entries-length _ _ _ _ _ _ _

pub put_of_frame : (n i j : ℕ) (x : Float) (t : List Float) (i' j' : ℕ) → i' < n → (Inside i (i + 1) j (j + 1) i' j' → ⊥)
    → put_of n i j x t ! place n i' j' ≡ t ! place n i' j'
unfolding put_of
put_of_frame n i j x t i' j' l out = on_entries_frame _ _ _ _ _ _ _ i' j' l out

pub put_of_there : (n i j : ℕ) (x : Float) (t : List Float) → n ≤ 64 → length t ≡ n * n → i < n → j < n → put_of n i j x t ! place n i j ≡ x
unfolding put_of
put_of_there n i j x t o s h k = on_entries-at n i (i + 1) j (j + 1) (λ _ _ _. x) t i j o s (omega arith) (omega arith) (omega arith)

-- a place rewritten where there is one
pub put_of_is : (n i j : ℕ) (x : Float) (t : List Float)
    → put_of n i j x t ≡ cond (block_fits n (length t) (i + 1) (j + 1)) (set t (place n i j) x) t
unfolding put_of on_entries
put_of_is n i j x t = rw in_block-one
