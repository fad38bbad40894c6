-- One turn of a kernel's loop. A kernel that goes down columns rewrites, at column j, the entries of two or three rows; one that goes along
-- rows rewrites, at row i, the entries of two columns. Its memory t is the block done so far, of the matrix t₀ at entry.
-- `unread_*`: what the turn reads has not been rewritten yet. `down_*` and `across_*`: after the turn the block has one column, or one row, more.
-- Assumes nothing.
use Prim.Native.Nat.{ℕ, ◌+◌, ◌*◌, ◌≤◌, ◌<◌}
use mathlib.Core.Path.{◌≡◌, sym, ap, ◌∙◌}
use mathlib.Core.Logic.{◌≢◌}
use mathlib.Core.List.{List}
use native.Mathlib.Omega.{arith}
use lib.ListN.{length, set}
use lib.Seq.{get_or-set_other}
use lib.Ieee.{Float, nan}
use Rattle.loops.specs.Place.{place}
use Rattle.loops.proofs.Place.{places}
use Rattle.loops.specs.Rounded.{◌!◌}
use Rattle.loops.specs.Times.{range, range-one, range_two, range_three}
use Rattle.matrix.specs.Entries.{Rule, at_entry, in_block}
use Rattle.matrix.proofs.Blocks.{in_block_frame, in_block_column, in_block_rows}

pub unread_down : (n r0 r1 c0 j : ℕ) (g : Rule) (t₀ t : List Float) (i : ℕ) → r1 ≤ n → i < n → t ≡ in_block n r0 r1 c0 j g t₀
    → t ! place n i j ≡ t₀ ! place n i j
unread_down n r0 r1 c0 j g t₀ t i h l e = ap (λ s. s ! place n i j) e ∙ in_block_frame n r0 r1 c0 j g t₀ i j h l (λ o. omega arith)

pub unread_across : (n r0 i c0 c1 : ℕ) (g : Rule) (t₀ t : List Float) (j : ℕ) → i < n → t ≡ in_block n r0 i c0 c1 g t₀ → t ! place n i j ≡ t₀ ! place n i j
unread_across n r0 i c0 c1 g t₀ t j l e = ap (λ s. s ! place n i j) e ∙ in_block_frame n r0 i c0 c1 g t₀ i j (omega arith) l (λ o. omega arith)

-- two, or three, entries put one after another, each with what the rule makes of it
abbrev put_two : List Float → ℕ → ℕ → Float → Float → List Float
put_two t p q a b = set (set t p a) q b

abbrev put_three : List Float → ℕ → ℕ → ℕ → Float → Float → Float → List Float
put_three t p q o a b d = set (set (set t p a) q b) o d

later_two : (t : List Float) (p q : ℕ) (a : Float) (f : Float → Float) → q ≢ p → set (set t p a) q (f (set t p a ! q)) ≡ put_two t p q a (f (t ! q))
later_two t p q a f h = ap (λ x. set (set t p a) q (f x)) (get_or-set_other t p q a nan h)

later_three : (t : List Float) (p q o : ℕ) (a b : Float) (f : Float → Float) → o ≢ p → o ≢ q
    → set (put_two t p q a b) o (f (put_two t p q a b ! o)) ≡ put_three t p q o a b (f (t ! o))
later_three t p q o a b f h k =
    ap (λ x. set (put_two t p q a b) o (f x)) (get_or-set_other (set t p a) q o b nan k ∙ get_or-set_other t p o a nan h)

-- ---- one column of two or three rows

column_two : (n i j : ℕ) (g : Rule) (t : List Float) → i + 2 ≤ n
    → range (at_entry n g j) i (i + 2) t ≡ put_two t (place n i j) (place n (i + 1) j) (g i j (t ! place n i j)) (g (i + 1) j (t ! place n (i + 1) j))
column_two n i j g t h =
    range_two (at_entry n g j) i t
    ∙ later_two t (place n i j) (place n (i + 1) j) (g i j (t ! place n i j)) (g (i + 1) j)
    (places n (i + 1) j i j (omega arith) (omega arith) (λ e f. omega arith))

column_three : (n i j : ℕ) (g : Rule) (t : List Float) → i + 3 ≤ n
    → range (at_entry n g j) i (i + 3) t
    ≡ put_three t (place n i j) (place n (i + 1) j) (place n (i + 2) j) (g i j (t ! place n i j)) (g (i + 1) j (t ! place n (i + 1) j))
    (g (i + 2) j (t ! place n (i + 2) j))
column_three n i j g t h =
    range_three (at_entry n g j) i t
    ∙ ap (at_entry n g j (i + 2)) (later_two t (place n i j) (place n (i + 1) j) (g i j (t ! place n i j)) (g (i + 1) j)
    (places n (i + 1) j i j (omega arith) (omega arith) (λ e f. omega arith)))
    ∙ later_three t (place n i j) (place n (i + 1) j) (place n (i + 2) j) (g i j (t ! place n i j)) (g (i + 1) j (t ! place n (i + 1) j)) (g (i + 2) j)
    (places n (i + 2) j i j (omega arith) (omega arith) (λ e f. omega arith))
    (places n (i + 2) j (i + 1) j (omega arith) (omega arith) (λ e f. omega arith))

-- ---- a turn down: what is put is what the rule says

pub down_two : (n i c0 j : ℕ) (g : Rule) (t₀ t : List Float) (a b : Float) → i + 2 ≤ n → c0 ≤ j → t ≡ in_block n i (i + 2) c0 j g t₀
    → a ≡ g i j (t ! place n i j) → b ≡ g (i + 1) j (t ! place n (i + 1) j)
    → set (set t (place n i j) a) (place n (i + 1) j) b ≡ in_block n i (i + 2) c0 (j + 1) g t₀
down_two n i c0 j g t₀ t a b h k e u v =
    rw (u, v) (sym (column_two n i j g t h) ∙ ap (range (at_entry n g j) i (i + 2)) e ∙ sym (in_block_column n i (i + 2) c0 j g t₀ k))

pub down_three : (n i c0 j : ℕ) (g : Rule) (t₀ t : List Float) (a b d : Float) → i + 3 ≤ n → c0 ≤ j → t ≡ in_block n i (i + 3) c0 j g t₀
    → a ≡ g i j (t ! place n i j) → b ≡ g (i + 1) j (t ! place n (i + 1) j) → d ≡ g (i + 2) j (t ! place n (i + 2) j)
    → set (set (set t (place n i j) a) (place n (i + 1) j) b) (place n (i + 2) j) d ≡ in_block n i (i + 3) c0 (j + 1) g t₀
down_three n i c0 j g t₀ t a b d h k e u v w =
    rw (u, v, w) (sym (column_three n i j g t h) ∙ ap (range (at_entry n g j) i (i + 3)) e ∙ sym (in_block_column n i (i + 3) c0 j g t₀ k))

-- ---- one row of two columns, and a turn across

row_two : (n i k : ℕ) (g : Rule) (t : List Float) → i < n
    → in_block n i (i + 1) k (k + 2) g t ≡ put_two t (place n i k) (place n i (k + 1)) (g i k (t ! place n i k)) (g i (k + 1) (t ! place n i (k + 1)))
unfolding in_block
row_two n i k g t h =
    range_two (λ j. range (at_entry n g j) i (i + 1)) k t
    ∙ range-one (at_entry n g (k + 1)) i (range (at_entry n g k) i (i + 1) t)
    ∙ ap (at_entry n g (k + 1) i) (range-one (at_entry n g k) i t)
    ∙ later_two t (place n i k) (place n i (k + 1)) (g i k (t ! place n i k)) (g i (k + 1)) (places n i (k + 1) i k h h (λ e f. omega arith))

pub across_two : (n i k : ℕ) (g : Rule) (t₀ t : List Float) (a b : Float) → length t₀ ≡ n * n → i < n → k + 2 ≤ n → t ≡ in_block n 0 i k (k + 2) g t₀
    → a ≡ g i k (t ! place n i k) → b ≡ g i (k + 1) (t ! place n i (k + 1))
    → set (set t (place n i k) a) (place n i (k + 1)) b ≡ in_block n 0 (i + 1) k (k + 2) g t₀
across_two n i k g t₀ t a b size h l e u v =
    rw (u, v)
    (sym (row_two n i k g t h) ∙ ap (in_block n i (i + 1) k (k + 2) g) e
    ∙ in_block_rows n g t₀ size 0 i (i + 1) k (k + 2) (omega arith) (omega arith) (omega arith) l)
