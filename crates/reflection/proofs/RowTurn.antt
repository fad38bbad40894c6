-- One turn of the loops over rows: at a column, the entries that are put are what the rule says; and the rows may be taken in portions,
-- since the rule of each reads that row alone. Assumes nothing.
use Prim.Native.Nat.{ℕ, ◌+◌, ◌-◌, ◌*◌, ◌≤◌, ◌<◌}
use mathlib.Core.Path.{◌≡◌, refl, sym, ap, ◌∙◌}
use mathlib.Core.Logic.{◌≢◌}
use mathlib.Core.List.{List}
use native.Mathlib.Nat.{add_assoc}
use native.Mathlib.Omega.{arith}
use lib.ListN.{length, set}
use lib.Seq.{get_or-set_other}
use lib.Ieee.{Float, nan}
use Rattle.loops.specs.Constants.{minus_two}
use Rattle.loops.specs.Place.{place}
use Rattle.loops.proofs.Place.{places}
use Rattle.loops.specs.Rounded.{◌⊕◌, ◌⊗◌, ◌!◌}
use Rattle.loops.specs.Table.{table, table_at}
use Rattle.loops.specs.Times.{range, range_more, range-one, range_portions}
use Rattle.matrix.specs.Sum.{bare}
use Rattle.matrix.specs.Vectors.{products}
use Rattle.matrix.specs.Entries.{Rule, at_entry, in_block}
use Rattle.matrix.specs.Product.{along}
use Rattle.matrix.proofs.Blocks.{in_block_frame, in_block_same, in_block_rows, in_block_no_columns, in_block_column, in_block_alone}
use Rattle.matrix.proofs.Sums.{bare_same}
use Rattle.matrix.proofs.Turns.{down_three}
use Rattle.reflection.specs.Reflected.{mirrored_rows}
use Rattle.reflection.specs.Inner.{four_put, four_along, eight_put, eight_along}

-- ---- four entries of a column, in the manner of the matrix's `Turns`

-- four entries put one after another
abbrev put_four : List Float → ℕ → ℕ → ℕ → ℕ → Float → Float → Float → Float → List Float
put_four t p q o r a b d e = set (set (set (set t p a) q b) o d) r e

later_four : (t : List Float) (p q o r : ℕ) (a b d : Float) (f : Float → Float) → r ≢ p → r ≢ q → r ≢ o
    → set (set (set (set t p a) q b) o d) r (f (set (set (set t p a) q b) o d ! r)) ≡ put_four t p q o r a b d (f (t ! r))
later_four t p q o r a b d f h k l =
    ap
    (λ x. put_four t p q o r a b d (f x))
    (get_or-set_other (set (set t p a) q b) o r d nan l ∙ get_or-set_other (set t p a) q r b nan k ∙ get_or-set_other t p r a nan h)

column_three : (n i j : ℕ) (g : Rule) (t : List Float) → i + 3 ≤ n
    → set
    (set (set t (place n i j) (g i j (t ! place n i j))) (place n (i + 1) j) (g (i + 1) j (t ! place n (i + 1) j)))
    (place n (i + 2) j)
    (g (i + 2) j (t ! place n (i + 2) j))
    ≡ range (at_entry n g j) i (i + 3) t
column_three n i j g t h =
    down_three n i j j g t t _ _ _ h (omega arith) (sym (in_block_no_columns n i (i + 3) j g t)) refl refl refl ∙ in_block_alone n i (i + 3) j g t

column_four : (n i j : ℕ) (g : Rule) (t : List Float) → i + 4 ≤ n
    → range (at_entry n g j) i (i + 4) t
    ≡ put_four
    t
    (place n i j)
    (place n (i + 1) j)
    (place n (i + 2) j)
    (place n (i + 3) j)
    (g i j (t ! place n i j))
    (g (i + 1) j (t ! place n (i + 1) j))
    (g (i + 2) j (t ! place n (i + 2) j))
    (g (i + 3) j (t ! place n (i + 3) j))
column_four n i j g t h =
    let e : i + 4 ≡ i + 3 + 1 = omega arith in
    rw e (range_more (at_entry n g j) i (i + 3) t (omega arith))
    ∙ ap (at_entry n g j (i + 3)) (sym (column_three n i j g t (omega arith)))
    ∙ later_four t (place n i j) (place n (i + 1) j) (place n (i + 2) j) (place n (i + 3) j) _ _ _ (g (i + 3) j)
    (places n (i + 3) j i j (omega arith) (omega arith) (λ e f. omega arith))
    (places n (i + 3) j (i + 1) j (omega arith) (omega arith) (λ e f. omega arith))
    (places n (i + 3) j (i + 2) j (omega arith) (omega arith) (λ e f. omega arith))

-- what is put is what the rule says
four_by_rule : (n i j : ℕ) (g : Rule) (t : List Float) (a b d f : Float) → i + 4 ≤ n
    → a ≡ g i j (t ! place n i j) → b ≡ g (i + 1) j (t ! place n (i + 1) j) → d ≡ g (i + 2) j (t ! place n (i + 2) j) → f ≡ g (i + 3) j (t ! place n (i + 3) j)
    → put_four t (place n i j) (place n (i + 1) j) (place n (i + 2) j) (place n (i + 3) j) a b d f ≡ range (at_entry n g j) i (i + 4) t
four_by_rule n i j g t a b d f h u v w x = rw (u, v, w, x) (sym (column_four n i j g t h))

-- ---- a turn

-- column j of four rows, put
column_put : (a : List Float) (s : Float) (n i c0 j : ℕ) (t₀ t : List Float) → i + 4 ≤ n
    → four_put (s ⊗ minus_two ⊗ (a ! j)) (four_along a n c0 t₀ i) s (place n i (c0 + j)) t ≡ range (at_entry n (mirrored_rows a s n c0 t₀) (c0 + j)) i (i + 4) t
unfolding mirrored_rows four_along
column_put a s n i c0 j t₀ t h =
    let k : c0 + j - c0 ≡ j = omega arith in
    rw (
      add_assoc ((c0 + j) * n) i 1,
      add_assoc ((c0 + j) * n) i 2,
      add_assoc ((c0 + j) * n) i 3,
    )
    (four_by_rule n i (c0 + j) (mirrored_rows a s n c0 t₀) t _ _ _ _ h (rw k) (rw k) (rw k) (rw k))

-- column j, behind those before it
column_behind : (n r0 r1 c0 j : ℕ) (g : Rule) (t₀ t u : List Float) → u ≡ range (at_entry n g (c0 + j)) r0 r1 t → t ≡ in_block n r0 r1 c0 (c0 + j) g t₀
    → u ≡ in_block n r0 r1 c0 (c0 + (j + 1)) g t₀
column_behind n r0 r1 c0 j g t₀ t u d e =
    rw (← add_assoc c0 j 1) (d ∙ ap (range (at_entry n g (c0 + j)) r0 r1) e ∙ sym (in_block_column n r0 r1 c0 (c0 + j) g t₀ (omega arith)))

-- four rows
pub four_turn : (a : List Float) (s : Float) (n i c0 j : ℕ) (t₀ t : List Float) → i + 4 ≤ n → t ≡ in_block n i (i + 4) c0 (c0 + j) (mirrored_rows a s n c0 t₀) t₀
    → four_put (s ⊗ minus_two ⊗ (a ! j)) (four_along a n c0 t₀ i) s (place n i (c0 + j)) t ≡ in_block n i (i + 4) c0 (c0 + (j + 1)) (mirrored_rows a s n c0 t₀) t₀
four_turn a s n i c0 j t₀ t h e = column_behind n i (i + 4) c0 j (mirrored_rows a s n c0 t₀) t₀ t _ (column_put a s n i c0 j t₀ t h) e

-- eight
pub eight_turn : (a : List Float) (s : Float) (n i c0 j : ℕ) (t₀ t : List Float) → i + 8 ≤ n → t ≡ in_block n i (i + 8) c0 (c0 + j) (mirrored_rows a s n c0 t₀) t₀
    → eight_put (s ⊗ minus_two ⊗ (a ! j)) (eight_along a n c0 t₀ i) s (place n i (c0 + j)) t ≡ in_block n i (i + 8) c0 (c0 + (j + 1)) (mirrored_rows a s n c0 t₀) t₀
eight_turn a s n i c0 j t₀ t h e =
    let f = s ⊗ minus_two ⊗ (a ! j) in
    let turn = at_entry n (mirrored_rows a s n c0 t₀) (c0 + j) in
    let x : i + 4 + 4 ≡ i + 8 = omega arith in
    column_behind n i (i + 8) c0 j (mirrored_rows a s n c0 t₀) t₀ t _
    (ap (λ p. four_put f (four_along a n c0 t₀ (i + 4)) s p (four_put f (four_along a n c0 t₀ i) s (place n i (c0 + j)) t)) (add_assoc ((c0 + j) * n) i 4)
    ∙ column_put a s n (i + 4) c0 j t₀ (four_put f (four_along a n c0 t₀ i) s (place n i (c0 + j)) t) (omega arith)
    ∙ ap (range turn (i + 4) (i + 4 + 4)) (column_put a s n i c0 j t₀ t (omega arith))
    ∙ range_portions turn i (i + 4) 4 t (omega arith)
    ∙ ap (λ b. range turn i b t) x)
    e

-- one row
pub one_turn : (a : List Float) (s : Float) (n i c0 j : ℕ) (t₀ t : List Float) → t ≡ in_block n i (i + 1) c0 (c0 + j) (mirrored_rows a s n c0 t₀) t₀
    → set t (place n i (c0 + j)) (s ⊗ minus_two ⊗ (a ! j) ⊗ along a n c0 t₀ i ⊕ s ⊗ (t ! place n i (c0 + j)))
    ≡ in_block n i (i + 1) c0 (c0 + (j + 1)) (mirrored_rows a s n c0 t₀) t₀
unfolding mirrored_rows
one_turn a s n i c0 j t₀ t e =
    let k : c0 + j - c0 ≡ j = omega arith in
    column_behind n i (i + 1) c0 j (mirrored_rows a s n c0 t₀) t₀ t _ (sym (range-one (at_entry n (mirrored_rows a s n c0 t₀) (c0 + j)) i t ∙ rw k)) e

-- the same, where the row was read before any of it was put
pub read_turn : (a : List Float) (s : Float) (n i c0 j : ℕ) (t₀ t : List Float) → i < n → j < length a
    → t ≡ in_block n i (i + 1) c0 (c0 + j) (mirrored_rows a s n c0 t₀) t₀
    → let u = table (length a) (λ j. t₀ ! place n i (c0 + j)) in
    set t (place n i (c0 + j)) (s ⊗ minus_two ⊗ (a ! j) ⊗ bare (length a) (products u a) ⊕ s ⊗ (u ! j))
    ≡ in_block n i (i + 1) c0 (c0 + (j + 1)) (mirrored_rows a s n c0 t₀) t₀
unfolding along
read_turn a s n i c0 j t₀ t h l e =
    let u = table (length a) (λ j. t₀ ! place n i (c0 + j)) in
    let stands : u ! j ≡ t ! place n i (c0 + j) =
    table_at (length a) _ j nan l
    ∙ sym (ap (λ v. v ! place n i (c0 + j)) e
    ∙ in_block_frame n i (i + 1) c0 (c0 + j) (mirrored_rows a s n c0 t₀) t₀ i (c0 + j) (omega arith) h (λ o. omega arith)) in
    let sum : bare (length a) (products u a) ≡ along a n c0 t₀ i =
    bare_same (length a) _ _ (λ k m. ap (λ x. x ⊗ (a ! k)) (table_at (length a) _ k nan m)) in
    rw (stands, sum) (one_turn a s n i c0 j t₀ t e)

-- a row that is not done yet has the sum that it had
along_kept : (a : List Float) (s : Float) (n r0 r1 c0 : ℕ) (t₀ t : List Float) (i : ℕ) → r1 ≤ i → i < n
    → t ≡ in_block n r0 r1 c0 (c0 + length a) (mirrored_rows a s n c0 t₀) t₀ → along a n c0 t i ≡ along a n c0 t₀ i
unfolding along
along_kept a s n r0 r1 c0 t₀ t i h l e =
    bare_same (length a) _ _ (λ j k. ap (λ x. x ⊗ (a ! j))
    (ap (λ u. u ! place n i (c0 + j)) e ∙ in_block_frame n r0 r1 c0 (c0 + length a) (mirrored_rows a s n c0 t₀) t₀ i (c0 + j) (omega arith) l (λ o. omega arith)))

-- the rows from r0 to r1, then those from r1 to r2 of what that leaves
pub rows_more : (a : List Float) (s : Float) (n r0 r1 r2 c0 : ℕ) (t₀ t : List Float) → length t₀ ≡ n * n → r0 ≤ r1 → r1 ≤ r2 → r2 ≤ n → c0 + length a ≤ n
    → t ≡ in_block n r0 r1 c0 (c0 + length a) (mirrored_rows a s n c0 t₀) t₀
    → in_block n r1 r2 c0 (c0 + length a) (mirrored_rows a s n c0 t) t ≡ in_block n r0 r2 c0 (c0 + length a) (mirrored_rows a s n c0 t₀) t₀
unfolding mirrored_rows
rows_more a s n r0 r1 r2 c0 t₀ t size h k l m e =
    in_block_same n r1 r2 c0 (c0 + length a) (mirrored_rows a s n c0 t) (mirrored_rows a s n c0 t₀) t
    (λ i j x at. ap (λ w. s ⊗ minus_two ⊗ (a ! (j - c0)) ⊗ w ⊕ s ⊗ x) (along_kept a s n r0 r1 c0 t₀ t i (omega arith) (omega arith) e))
    ∙ ap (in_block n r1 r2 c0 (c0 + length a) (mirrored_rows a s n c0 t₀)) e
    ∙ in_block_rows n (mirrored_rows a s n c0 t₀) t₀ size r0 r1 r2 c0 (c0 + length a) h k l m
