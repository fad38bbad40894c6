-- A search as a loop makes it: what is left to search is the whole. From one number to the next, as along a row, a column or the diagonal; and column by
-- column, which finds nothing exactly where the test names no place. Assumes nothing.
use Rattle.std.specs.Prelude.{None, Some, Option, MatchOption}
use Prim.Native.Nat.{ℕ, ◌+◌, ◌<◌, ◌≤◌}
use mathlib.Core.Bool.{Bool, true, false, cond}
use mathlib.Core.Path.{◌≡◌, refl, sym, ap, ◌∙◌}
use native.Mathlib.Decide.{dec_lt}
use native.Mathlib.Omega.{arith}
use borrow.Author.Tests.{ltb-true, ltb-false, lt-ltb, le-ltb}
use lib.Dec.{ltb}
use Rattle.loops.specs.First.{first_from}
use Rattle.loops.proofs.First.{first_here, first_on, first_none, first_past, first_same, some_none, none_some}
use Rattle.refusal.specs.declared.refusal.Place.{Place}
use Rattle.refusal.specs.Refusal.{at}
use Rattle.refusal.specs.Inner.{found}
use Rattle.refusal.specs.Search.{first_row, first_col, first_place}

-- ---- number by number: the test names none from `from` to before k

pub record Sought (test : ℕ → Bool) (n from k : ℕ) : Type 0 where
  pub past : from ≤ k
  pub upto : k ≤ n
  pub left : first_from test n k ≡ first_from test n from

pub sought_none : (test : ℕ → Bool) (n from : ℕ) → from ≤ n → Sought test n from from
sought_none test n from h = record { past = omega arith; upto = h; left = refl }

pub sought_more : {test : ℕ → Bool} {n from k : ℕ} → Sought test n from k → k < n → test k ≡ false → Sought test n from (k + 1)
sought_more {test} {n} {from} {k} s l h = record { past = omega arith; upto = omega arith; left = sym (first_on test n k l h) ∙ s.left }

-- here it is; or there is none
pub sought_here : {test : ℕ → Bool} {n from k : ℕ} → Sought test n from k → test k ≡ true → k ≡ first_from test n from
sought_here {test} {n} {from} {k} s h = sym (first_here test n k h) ∙ s.left

pub sought_done : {test : ℕ → Bool} {n from k : ℕ} → Sought test n from k → n ≤ k → k ≡ first_from test n from
sought_done {test} {n} {from} {k} s l = sym (first_none test n k l) ∙ s.left

-- ---- what was found, where none is told apart

pub found_some : {n k i : ℕ} → i ≡ k → k < n → Some i ≡ found n k
found_some {n} {k} {i} e l = rw (e, lt-ltb k n l)

pub found_none : {n k : ℕ} → n ≤ k → None ≡ found n k
found_none {n} {k} l = rw (le-ltb k n l)

-- and the other way
pub some_found : {n k i : ℕ} → Some i ≡ found n k → (i ≡ k) × (i < n)
some_found {n} {k} {i} h = go (ltb k n) refl h
  where
    go : (b : Bool) → ltb k n ≡ b → Some i ≡ cond b (Some k) None → (i ≡ k) × (i < n)
    go true e h = let same : i ≡ k = cc in (same, omega (arith, ltb-true k n e))
    go false e h = cc

pub none_found : {n k : ℕ} → None ≡ found n k → n ≤ k
none_found {n} {k} h = go (ltb k n) refl h
  where
    go : (b : Bool) → ltb k n ≡ b → None ≡ cond b (Some k) None → n ≤ k
    go true e h = cc
    go false e h = ltb-false k n e

-- what `find` over a..n has found by one test, told by another that says the same there
pub range_found : {test other : ℕ → Bool} {n a : ℕ} {r : Option ℕ} → a ≤ n
    → MatchOption r ((k : ℕ) → a ≤ k → k < n → test k ≡ false) (λ i. (a ≤ i) × (i < n) × (test i ≡ true) × ((k : ℕ) → a ≤ k → k < i → test k ≡ false))
    → ((k : ℕ) → a ≤ k → k < n → other k ≡ test k)
    → r ≡ found n (first_from other n a)
range_found {other = other} {n = n} {a = a} {r = None} l h same =
    found_none (omega (arith, first_past other n a n l (omega arith) (λ k b c. same k b c ∙ h k b c), first_none other n n (omega arith)))
range_found {other = other} {n = n} {a = a} {r = Some i} l h same =
    let past = first_past other n a i h.0 (omega arith) (λ k b c. same k b (omega arith) ∙ h.3 k b c) in
    found_some (sym (past ∙ first_here other n i (same i h.0 h.1 ∙ h.2))) (omega (arith, past, first_here other n i (same i h.0 h.1 ∙ h.2)))

-- ---- column by column

-- whether column j has such a row
abbrev pub in_column : (ℕ → ℕ → Bool) → ℕ → ℕ → Bool
in_column test n j = ltb (first_row test n j) n

-- the columns before j have none
pub record Searched (test : ℕ → ℕ → Bool) (n j : ℕ) : Type 0 where
  pub upto : j ≤ n
  pub left : first_from (in_column test n) n j ≡ first_col test n

pub searched_none : (test : ℕ → ℕ → Bool) (n : ℕ) → Searched test n 0
unfolding first_col
searched_none test n = record { upto = omega arith; left = refl }

pub searched_more : {test : ℕ → ℕ → Bool} {n j : ℕ} → Searched test n j → j < n → n ≤ first_row test n j → Searched test n (j + 1)
searched_more {test} {n} {j} s l h = record { upto = omega arith; left = sym (first_on (in_column test n) n j l (le-ltb _ _ h)) ∙ s.left }

-- what the column found makes of the search
by : (test : ℕ → ℕ → Bool) (n j : ℕ) (b : Bool) → j ≡ first_col test n → ltb j n ≡ b → cond b (Some (at (first_row test n j) j)) None ≡ first_place test n
unfolding first_place
by test n j b e h = ap (λ d. cond d (Some (at (first_row test n j) j)) None) (sym h) ∙ ap (λ k. cond (ltb k n) (Some (at (first_row test n k) k)) None) e

pub searched_here : {test : ℕ → ℕ → Bool} {n i j : ℕ} → Searched test n j → j < n → i ≡ first_row test n j → i < n → Some (at i j) ≡ first_place test n
searched_here {test} {n} {i} {j} s l e h =
    let row : first_row test n j < n = omega arith in
    ap (λ k. Some (at k j)) e ∙ by test n j true (sym (first_here (in_column test n) n j (lt-ltb _ _ row)) ∙ s.left) (lt-ltb _ _ l)

pub searched_done : {test : ℕ → ℕ → Bool} {n j : ℕ} → Searched test n j → n ≤ j → None ≡ first_place test n
searched_done {test} {n} {j} s l = by test n j false (sym (first_none (in_column test n) n j l) ∙ s.left) (le-ltb _ _ l)

-- two tests that say the same of every place of the matrix find the same
pub first_row_same : (test other : ℕ → ℕ → Bool) (n j : ℕ) → ((i : ℕ) → i < n → test i j ≡ other i j) → first_row test n j ≡ first_row other n j
unfolding first_row
first_row_same test other n j same = first_same _ _ n 0 (omega arith) same

pub first_col_same : (test other : ℕ → ℕ → Bool) (n : ℕ) → ((i j : ℕ) → i < n → j < n → test i j ≡ other i j) → first_col test n ≡ first_col other n
unfolding first_col
first_col_same test other n same = first_same _ _ n 0 (omega arith) (λ j l. ap (λ k. ltb k n) (first_row_same test other n j (λ i h. same i j h l)))

pub first_place_same : (test other : ℕ → ℕ → Bool) (n : ℕ) → ((i j : ℕ) → i < n → j < n → test i j ≡ other i j) → first_place test n ≡ first_place other n
first_place_same test other n same = go (dec_lt (first_col test n) n)
  where
    go : Dec (first_col test n < n) → first_place test n ≡ first_place other n
    go (yes l) =
        sym (by test n (first_col test n) true refl (lt-ltb _ _ l))
        ∙ ap (λ i. Some (at i (first_col test n))) (first_row_same test other n (first_col test n) (λ i h. same i (first_col test n) h l))
        ∙ by other n (first_col test n) true (first_col_same test other n same) (lt-ltb _ _ l)
    go (no l) =
        let past : ltb (first_col test n) n ≡ false = le-ltb (first_col test n) n (omega arith) in
        sym (by test n (first_col test n) false refl past) ∙ by other n (first_col test n) false (first_col_same test other n same) past

-- ---- nowhere: no place of the matrix is named; and the other way

missed : (b : Bool) (p : Place) → cond b (Some p) None ≡ None → b ≡ false
missed true p h = cc
missed false p h = refl

pub nowhere_none : (test : ℕ → ℕ → Bool) (n : ℕ) → first_place test n ≡ None → (i j : ℕ) → i < n → j < n → test i j ≡ false
unfolding first_place first_col first_row
nowhere_none test n h i j k l = some_none (λ i. test i j) 0 n i (some_none (in_column test n) 0 n j (missed _ _ h) (omega arith) l) (omega arith) k

pub none_nowhere : (test : ℕ → ℕ → Bool) (n : ℕ) → ((i j : ℕ) → i < n → j < n → test i j ≡ false) → first_place test n ≡ None
unfolding first_place first_col first_row
none_nowhere test n none = rw (none_some (in_column test n) 0 n (omega arith) (λ j _ l. none_some (λ i. test i j) 0 n (omega arith) (λ i _ k. none i j k l)))
