-- One turn of the loop over columns: the axis times the column is the sum that the rule takes, and each entry that is put is what the rule
-- says. Assumes nothing.
use Prim.Native.Nat.{ℕ, ◌+◌, ◌-◌, ◌≤◌, ◌<◌}
use mathlib.Core.Path.{◌≡◌, sym, ap, ◌∙◌}
use mathlib.Core.List.{List}
use native.Mathlib.Nat.{add_assoc}
use native.Mathlib.Omega.{arith}
use lib.ListN.{length}
use lib.Ieee.{Float, nan}
use Rattle.loops.specs.Constants.{minus_two}
use Rattle.loops.specs.Part.{part, part_length, part_at}
use Rattle.loops.specs.Place.{place}
use Rattle.loops.specs.Rounded.{◌⊕◌, ◌⊗◌, ◌!◌}
use Rattle.loops.specs.Table.{table, table_at}
use Rattle.loops.specs.Times.{range, times_same}
use Rattle.matrix.specs.Sum.{Order, bare, lanes}
use Rattle.matrix.specs.Vectors.{products, dot_of}
use Rattle.matrix.specs.Entries.{at_entry, in_block}
use Rattle.matrix.proofs.Blocks.{in_block_column}
use Rattle.matrix.proofs.Sums.{bare_same, lanes_same, dot_of_is}
use Rattle.matrix.proofs.Turns.{unread_down}
use Rattle.reflection.specs.Reflected.{down, mirrored_columns}
use Rattle.reflection.specs.Inner.{axpy_of}

-- the rows from `row` on, one after another: the code's places and those of the rule
whole_column : (f : Float) (a : List Float) (s : Float) (n row j : ℕ) (t : List Float)
    → axpy_of f a s (place n row j) t ≡ range (at_entry n (λ i j x. f ⊗ (a ! (i - row)) ⊕ s ⊗ x) j) row (row + length a) t
unfolding axpy_of range
whole_column f a s n row j t =
    let e : row + length a - row ≡ length a = omega arith in
    rw e (times_same _ _ _ _ (λ i u l. let h : row + i - row ≡ i = omega arith in rw (h, ← add_assoc)))

-- what the turn reads is the column as it was at entry
column_read : (sum : Order) (a : List Float) (n row c0 j : ℕ) (s : Float) (t₀ t : List Float) (i : ℕ) → row + length a ≤ n → i < length a
    → t ≡ in_block n row (row + length a) c0 j (mirrored_columns sum a s n row t₀) t₀ → t ! (place n row j + i) ≡ t₀ ! place n (row + i) j
column_read sum a n row c0 j s t₀ t i h l e =
    rw add_assoc (unread_down n row (row + length a) c0 j (mirrored_columns sum a s n row t₀) t₀ t (row + i) h (omega arith) e)

-- the sum of run-time length, over a part of the matrix
pub part_down : (a : List Float) (n row c0 j : ℕ) (s : Float) (t₀ t : List Float) → row + length a ≤ n → place n row j + length a ≤ length t
    → t ≡ in_block n row (row + length a) c0 j (mirrored_columns lanes a s n row t₀) t₀
    → dot_of a (part (place n row j) (place n row j + length a) t) ≡ down lanes a n row t₀ j
unfolding down
part_down a n row c0 j s t₀ t h k e =
    let o = place n row j in
    dot_of_is a (part o (o + length a) t) (omega (arith, part_length o (o + length a) t (omega arith) k))
    ∙ lanes_same (length a) _ _ (λ i l. ap (λ x. (a ! i) ⊗ x)
    (part_at o (o + length a) t i nan (omega arith) ∙ column_read lanes a n row c0 j s t₀ t i h l e))

-- the sum over a vector that was read from the matrix
pub read_down : (a : List Float) (n row c0 j : ℕ) (s : Float) (t₀ t : List Float) → row + length a ≤ n
    → t ≡ in_block n row (row + length a) c0 j (mirrored_columns bare a s n row t₀) t₀
    → bare (length a) (products a (table (length a) (λ k. t ! (place n row j + k)))) ≡ down bare a n row t₀ j
unfolding down
read_down a n row c0 j s t₀ t h e =
    bare_same (length a) _ _ (λ i l. ap (λ x. (a ! i) ⊗ x)
    (table_at (length a) _ i nan l ∙ column_read bare a n row c0 j s t₀ t i h l e))

pub column_turn : (sum : Order) (a : List Float) (s d : Float) (n row c0 j : ℕ) (t₀ t : List Float) → c0 ≤ j
    → t ≡ in_block n row (row + length a) c0 j (mirrored_columns sum a s n row t₀) t₀ → d ≡ down sum a n row t₀ j
    → axpy_of (d ⊗ (s ⊗ minus_two)) a s (place n row j) t ≡ in_block n row (row + length a) c0 (j + 1) (mirrored_columns sum a s n row t₀) t₀
unfolding mirrored_columns
column_turn sum a s d n row c0 j t₀ t l e q =
    rw q
    (whole_column (down sum a n row t₀ j ⊗ (s ⊗ minus_two)) a s n row j t
    ∙ ap (range (at_entry n (mirrored_columns sum a s n row t₀) j) row (row + length a)) e
    ∙ sym (in_block_column n row (row + length a) c0 j (mirrored_columns sum a s n row t₀) t₀ l))
