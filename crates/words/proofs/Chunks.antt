-- The words of eight bytes that a list of bytes holds, and the floats whose patterns they are. Assumes nothing.
use Rattle.std.specs.Prelude.{map}
use Prim.Native.Nat.{ℕ, zero, suc, ◌+◌, ◌*◌, ◌/◌, ◌<◌, ◌≤◌}
use mathlib.Core.Path.{◌≡◌, refl, ap, ◌∙◌}
use mathlib.Core.List.{List, []}
use native.Mathlib.Nat.{add-zero}
use native.Mathlib.Omega.{arith}
use lib.ListN.{length, get_or, take, drop, length-map}
use lib.Seq.{get_or-take, get_or-drop}
use lib.Ieee.{nan, binary64, of_bits}
use Rattle.std.specs.Int.{w64, from_le_bytes}
use Rattle.std.specs.Simd.{first_chunks}
use Rattle.std.proofs.lemmas.List.{get_or-map}
use Rattle.std.proofs.lemmas.Grind.{common_steps}
use Rattle.loops.specs.Rounded.{◌!◌}
use Rattle.loops.specs.Table.{table-length, table_at, table_of}
use Rattle.words.specs.Words.{le64}
use Rattle.words.specs.Floats.{floats_of}
use Rattle.words.specs.Inner.{float_of}

-- a byte of n bytes
pub piece : (s : List ℕ) (at n i : ℕ) → i < n → get_or (take n (drop at s)) i 0 ≡ get_or s (at + i) 0
piece s at n i l = get_or-take n (drop at s) i 0 l ∙ get_or-drop at s i 0

-- eight bytes, as std makes a number of them
pub le64_bytes : (s : List ℕ) (at : ℕ) → from_le_bytes w64 (take 8 (drop at s)) ≡ le64 s at
unfolding le64
le64_bytes s at = rw (
  piece s at 8 0 (omega arith),
  piece s at 8 1 (omega arith),
  piece s at 8 2 (omega arith),
  piece s at 8 3 (omega arith),
  piece s at 8 4 (omega arith),
  piece s at 8 5 (omega arith),
  piece s at 8 6 (omega arith),
  piece s at 8 7 (omega arith),
  add-zero,
)

-- ---- floats

pub floats_of-length : (b : List ℕ) → length (floats_of b) ≡ length b / 8
unfolding floats_of
floats_of-length b = table-length (length b / 8) _

pub floats_of-at : (b : List ℕ) (k : ℕ) → 8 * k + 8 ≤ length b → floats_of b ! k ≡ of_bits binary64 (le64 b (8 * k))
unfolding floats_of
floats_of-at b k h = table_at (length b / 8) _ k nan (omega arith)

-- ---- all the words of a list

chunks-length : (n k : ℕ) (s : List ℕ) → length (first_chunks n k s) ≡ k
chunks-length n zero s = refl
chunks-length n (suc k) s = ap (λ m. suc m) (chunks-length n k (drop n s))

chunks_at : (n k : ℕ) (s : List ℕ) (i : ℕ) → i < k → get_or (first_chunks n k s) i [] ≡ take n (drop (n * i) s)
chunks_at n zero s i l = absurd (omega arith)
chunks_at n (suc k) s zero l = let e : n * 0 ≡ 0 = omega arith in rw e
chunks_at n (suc k) s (suc i) l = chunks_at n k (drop n s) i (omega arith) ∙ grind (arith, common_steps)

pub words_floats : (s : List ℕ) → map float_of (first_chunks 8 (length s / 8) s) ≡ floats_of s
unfolding float_of floats_of
words_floats s = table_of (length s / 8) _ (map float_of (first_chunks 8 (length s / 8) s)) nan (length-map _ float_of ∙ chunks-length 8 (length s / 8) s)
    (λ i l. get_or-map float_of (first_chunks 8 (length s / 8) s) i [] nan (omega (arith, chunks-length 8 (length s / 8) s))
    ∙ ap (of_bits binary64) (ap (from_le_bytes w64) (chunks_at 8 (length s / 8) s i l) ∙ le64_bytes s (8 * i)))
