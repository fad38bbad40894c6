-- What is done to each entry of a block: the length is kept, and so is every entry outside; each entry inside is rewritten once; and any
-- list of which that holds is this one. So the block may be taken in portions of rows or of columns. Assumes nothing.
use Prim.Native.Nat.{ℕ, zero, suc, ◌+◌, ◌*◌, ◌/◌, ◌%◌, ◌≤◌, ◌<◌, max}
use mathlib.Core.Path.{◌≡◌, refl, sym, ap, ◌∙◌}
use mathlib.Core.Logic.{◌≢◌}
use mathlib.Core.List.{List}
use native.Mathlib.Decide.{dec_lt}
use native.Mathlib.Nat.{div-add-mod', mod-lt, div-lt_iff_lt-mul}
use native.Mathlib.Omega.{arith}
use lib.ListN.{length, set, length-set}
use lib.Seq.{get_or-set_same, get_or-set_other, ext_get_or}
use lib.Ieee.{Float, nan}
use Rattle.loops.specs.Place.{place, in_square, Inside}
use Rattle.loops.proofs.Place.{places, apart}
use Rattle.loops.specs.Rounded.{◌!◌}
use Rattle.loops.specs.Times.{range, range_none, range_more, range_done, range_same, range_length, range_frame, range_at}
use Rattle.matrix.specs.Entries.{Rule, at_entry, in_block}

-- whether an entry lies in the block
pub dec_inside : (a b c d i j : ℕ) → Dec (Inside a b c d i j)
dec_inside a b c d i j = go (dec_lt i a) (dec_lt i b) (dec_lt j c) (dec_lt j d)
  where
    go : Dec (i < a) → Dec (i < b) → Dec (j < c) → Dec (j < d) → Dec (Inside a b c d i j)
    go (no x) (yes y) (no z) (yes w) = yes (omega arith)
    go (yes x) y z w = no (λ o. omega arith)
    go (no x) (no y) z w = no (λ o. omega arith)
    go (no x) (yes y) (yes z) w = no (λ o. omega arith)
    go (no x) (yes y) (no z) (no w) = no (λ o. omega arith)

-- ---- one column

column_length : (n : ℕ) (g : Rule) (j a b : ℕ) (t : List Float) → length (range (at_entry n g j) a b t) ≡ length t
column_length n g j a b t = range_length _ _ _ _ (λ i s. simp length-set)

-- a place that is none of those rewritten
column_frame : (n : ℕ) (g : Rule) (j a b : ℕ) (t : List Float) (p : ℕ) → ((i : ℕ) → a ≤ i → i < b → p ≢ place n i j) → range (at_entry n g j) a b t ! p ≡ t ! p
column_frame n g j a b t p out = range_frame _ _ _ _ _ _ (λ i s h k. get_or-set_other s _ _ _ nan (out i h k))

column_at : (n : ℕ) (g : Rule) (j a b : ℕ) (t : List Float) (i : ℕ) → b ≤ n → a ≤ i → i < b → place n i j < length t
    → range (at_entry n g j) a b t ! place n i j ≡ g i j (t ! place n i j)
column_at n g j a b t i h k l m =
    let here : length (range (at_entry n g j) a i t) ≡ length t = column_length n g j a i t in
    range_at (at_entry n g j) a b t i (place n i j) nan k l (λ i' s u v w. get_or-set_other s _ _ _ nan
    (places n i j i' j (omega arith) (omega arith) (λ e f. omega arith)))
    ∙ get_or-set_same (range (at_entry n g j) a i t) _ _ nan (omega arith)
    ∙ ap (g i j) (column_frame n g j a i t (place n i j) (λ i' u v. places n i j i' j (omega arith) (omega arith) (λ e f. omega arith)))

-- ---- the block

pub in_block-length : (n r0 r1 c0 c1 : ℕ) (g : Rule) (t : List Float) → length (in_block n r0 r1 c0 c1 g t) ≡ length t
unfolding in_block
in_block-length n r0 r1 c0 c1 g t = range_length _ _ _ _ (λ j s. column_length n g j r0 r1 s)

-- an entry outside is left alone
pub in_block_frame : (n r0 r1 c0 c1 : ℕ) (g : Rule) (t : List Float) (i j : ℕ) → r1 ≤ n → i < n → (Inside r0 r1 c0 c1 i j → ⊥)
    → in_block n r0 r1 c0 c1 g t ! place n i j ≡ t ! place n i j
unfolding in_block
in_block_frame n r0 r1 c0 c1 g t i j h l out =
    range_frame _ _ _ _ _ _ (λ j' s u v. column_frame n g j' r0 r1 s _ (λ i' x y. apart n i' j' l (omega arith) out (omega arith)))

-- an entry inside is rewritten once
pub in_block-at : (n r0 r1 c0 c1 : ℕ) (g : Rule) (t : List Float) (i j : ℕ) → length t ≡ n * n → r1 ≤ n → c1 ≤ n → Inside r0 r1 c0 c1 i j
    → in_block n r0 r1 c0 c1 g t ! place n i j ≡ g i j (t ! place n i j)
unfolding in_block
in_block-at n r0 r1 c0 c1 g t i j size h k at =
    let before : length (in_block n r0 r1 c0 j g t) ≡ length t = in_block-length n r0 r1 c0 j g t in
    let there = in_square n i j (omega arith) (omega arith) in
    range_at (λ j. range (at_entry n g j) r0 r1) c0 c1 t j (place n i j) nan (omega arith) (omega arith)
    (λ j' s u v w. column_frame n g j' r0 r1 s _ (λ i' x y. places n i j i' j' (omega arith) (omega arith) (λ e f. omega arith)))
    ∙ column_at n g j r0 r1 (in_block n r0 r1 c0 j g t) i h (omega arith) (omega arith) (omega arith)
    ∙ ap (g i j) (in_block_frame n r0 r1 c0 j g t i j h (omega arith) (λ o. omega arith))

-- rules that agree in the block
pub in_block_same : (n r0 r1 c0 c1 : ℕ) (g h : Rule) (t : List Float) → ((i j : ℕ) (x : Float) → Inside r0 r1 c0 c1 i j → g i j x ≡ h i j x)
    → in_block n r0 r1 c0 c1 g t ≡ in_block n r0 r1 c0 c1 h t
unfolding in_block
in_block_same n r0 r1 c0 c1 g h t same =
    range_same _ _ _ _ _ (λ j s a b. range_same _ _ _ _ _ (λ i u c d. ap (set u (place n i j)) (same i j (u ! place n i j) (omega arith))))

-- ---- every index of a matrix is the place of an entry

pos : (n p : ℕ) → p < n * n → 0 < n
pos zero p h = absurd (omega arith)
pos (suc n) p h = omega arith

pub each_place : (P : ℕ → Type 0) (n : ℕ) → ((i j : ℕ) → i < n → j < n → P (place n i j)) → (p : ℕ) → p < n * n → P p
each_place P n all p l =
    let positive : 0 < n = pos n p l in
    let e = div-add-mod' p n in
    rw e at (all (p % n) (p / n) (mod-lt p positive) ((div-lt_iff_lt-mul positive).1 l))

-- so two matrices with the same entries are one list

pub same_entries : (n : ℕ) (s t : List Float) → length s ≡ n * n → length t ≡ n * n → ((i j : ℕ) → i < n → j < n → s ! place n i j ≡ t ! place n i j) → s ≡ t
same_entries n s t h k same = ext_get_or nan s t (omega arith) (λ p l. each_place (λ p. s ! p ≡ t ! p) n same p (omega arith))

-- the block is the only list that has its entries
pub in_block_is : (n r0 r1 c0 c1 : ℕ) (g : Rule) (t s : List Float) → length t ≡ n * n → length s ≡ n * n → r1 ≤ n → c1 ≤ n
    → ((i j : ℕ) → i < n → j < n → Inside r0 r1 c0 c1 i j → s ! place n i j ≡ g i j (t ! place n i j))
    → ((i j : ℕ) → i < n → j < n → (Inside r0 r1 c0 c1 i j → ⊥) → s ! place n i j ≡ t ! place n i j)
    → s ≡ in_block n r0 r1 c0 c1 g t
in_block_is n r0 r1 c0 c1 g t s size length_s h k inside outside =
    same_entries n s (in_block n r0 r1 c0 c1 g t) length_s (in_block-length n r0 r1 c0 c1 g t ∙ size) go
  where
    go : (i j : ℕ) → i < n → j < n → s ! place n i j ≡ in_block n r0 r1 c0 c1 g t ! place n i j
    go i j a b = cases (dec_inside r0 r1 c0 c1 i j)
      where
        cases : Dec (Inside r0 r1 c0 c1 i j) → s ! place n i j ≡ in_block n r0 r1 c0 c1 g t ! place n i j
        cases (yes at) = inside i j a b at ∙ sym (in_block-at n r0 r1 c0 c1 g t i j size h k at)
        cases (no out) = outside i j a b out ∙ sym (in_block_frame n r0 r1 c0 c1 g t i j h a out)

-- ---- the block in portions, where the rows and columns lie in the matrix

module _ (n : ℕ) (g : Rule) (t : List Float) (size : length t ≡ n * n) where
  -- rows from r0 to r1, then from r1 to r2
  pub in_block_rows : (r0 r1 r2 c0 c1 : ℕ) → r0 ≤ r1 → r1 ≤ r2 → r2 ≤ n → c1 ≤ n
      → in_block n r1 r2 c0 c1 g (in_block n r0 r1 c0 c1 g t) ≡ in_block n r0 r2 c0 c1 g t
  in_block_rows r0 r1 r2 c0 c1 h k l m =
      let s = in_block n r0 r1 c0 c1 g t in
      let length_s : length s ≡ n * n = in_block-length n r0 r1 c0 c1 g t ∙ size in
      in_block_is n r0 r2 c0 c1 g t (in_block n r1 r2 c0 c1 g s) size (in_block-length n r1 r2 c0 c1 g s ∙ length_s) l m
      (λ i j a b at. inner i j a (dec_lt i r1) at)
      (λ i j a b out. in_block_frame n r1 r2 c0 c1 g s i j l a (λ o. out (omega arith))
      ∙ in_block_frame n r0 r1 c0 c1 g t i j (omega arith) a (λ o. out (omega arith)))
    where
      inner : (i j : ℕ) → i < n → Dec (i < r1) → Inside r0 r2 c0 c1 i j
          → in_block n r1 r2 c0 c1 g (in_block n r0 r1 c0 c1 g t) ! place n i j ≡ g i j (t ! place n i j)
      inner i j a (yes x) at =
          in_block_frame n r1 r2 c0 c1 g (in_block n r0 r1 c0 c1 g t) i j l a (λ o. omega arith)
          ∙ in_block-at n r0 r1 c0 c1 g t i j size (omega arith) m (omega arith)
      inner i j a (no x) at =
          in_block-at n r1 r2 c0 c1 g (in_block n r0 r1 c0 c1 g t) i j (in_block-length n r0 r1 c0 c1 g t ∙ size) l m (omega arith)
          ∙ ap (g i j) (in_block_frame n r0 r1 c0 c1 g t i j (omega arith) a (λ o. omega arith))

  -- no rows, no columns
  pub in_block_no_rows : (r c0 c1 : ℕ) → r ≤ n → c1 ≤ n → in_block n r r c0 c1 g t ≡ t
  in_block_no_rows r c0 c1 h k =
      sym (in_block_is n r r c0 c1 g t t size size h k (λ i j a b at. absurd (omega arith)) (λ i j a b out. refl))

pub in_block_no_columns : (n r0 r1 c : ℕ) (g : Rule) (t : List Float) → in_block n r0 r1 c c g t ≡ t
unfolding in_block
in_block_no_columns n r0 r1 c g t = range_none _ _ _

-- one column more
pub in_block_column : (n r0 r1 c0 j : ℕ) (g : Rule) (t : List Float) → c0 ≤ j
    → in_block n r0 r1 c0 (j + 1) g t ≡ range (at_entry n g j) r0 r1 (in_block n r0 r1 c0 j g t)
unfolding in_block
in_block_column n r0 r1 c0 j g t h = range_more _ _ _ _ h

-- one column alone, and one column behind those before it
pub in_block_alone : (n r0 r1 j : ℕ) (g : Rule) (t : List Float) → in_block n r0 r1 j (j + 1) g t ≡ range (at_entry n g j) r0 r1 t
in_block_alone n r0 r1 j g t = in_block_column n r0 r1 j j g t (omega arith) ∙ ap (range (at_entry n g j) r0 r1) (in_block_no_columns n r0 r1 j g t)

pub in_block_behind : (n r0 r1 c0 j : ℕ) (g : Rule) (t : List Float) → c0 ≤ j
    → in_block n r0 r1 j (j + 1) g (in_block n r0 r1 c0 j g t) ≡ in_block n r0 r1 c0 (j + 1) g t
in_block_behind n r0 r1 c0 j g t h = in_block_alone n r0 r1 j g (in_block n r0 r1 c0 j g t) ∙ sym (in_block_column n r0 r1 c0 j g t h)

-- where the loop's test over the columns has failed
pub in_block_columns_done : (n r0 r1 c0 c1 j : ℕ) (g : Rule) (t : List Float) → c0 ≤ j → j ≤ max c0 c1 → c1 ≤ j
    → in_block n r0 r1 c0 j g t ≡ in_block n r0 r1 c0 c1 g t
unfolding in_block
in_block_columns_done n r0 r1 c0 c1 j g t h k l = range_done _ _ _ _ _ h k l

-- where the loop's test over the rows from 0 has failed
pub in_block_rows_done : (n r1 c0 c1 i : ℕ) (g : Rule) (t : List Float) → i ≤ r1 → r1 ≤ i → in_block n 0 i c0 c1 g t ≡ in_block n 0 r1 c0 c1 g t
in_block_rows_done n r1 c0 c1 i g t h k = let e : i ≡ r1 = omega arith in rw e
