-- What a search along the diagonal finds, as a range's `any` and `find` make it, and as a loop does. Assumes nothing.
use Rattle.std.specs.Prelude.{None, Option, Some}
use Rattle.std.specs.List.{find, list_any, range_with_len}
use Rattle.std.specs.Option.{IsSomeAnd, MatchOption, option_map}
use Prim.Native.Nat.{ℕ, zero, suc, ◌+◌, ◌<◌, ◌≤◌}
use mathlib.Core.Bool.{Bool, true, false, cond, ◌||◌}
use mathlib.Core.Path.{◌≡◌, refl, sym, ap, ◌∙◌}
use native.Mathlib.Omega.{arith}
use borrow.Author.Tests.{lt-ltb, le-ltb}
use lib.Dec.{ltb}
use Rattle.loops.specs.First.{first_from, some}
use Rattle.loops.proofs.First.{first_here, first_on, first_none}
use Rattle.refusal.specs.declared.refusal.Place.{Place}
use Rattle.refusal.specs.Refusal.{at}
use Rattle.refusal.specs.Search.{first_on_diagonal}
use Rattle.refusal.proofs.Searching.{Sought, sought_here, sought_done}

-- ---- a range

-- the k numbers from a on: whether one passes
any_left : (test : ℕ → Bool) (k a n : ℕ) → a + k ≡ n → list_any test (range_with_len a k) ≡ some test a n
any_left test zero a n e = sym (ap (λ i. ltb i n) (first_none test n a (omega arith)) ∙ le-ltb a n (omega arith))
any_left test (suc k) a n e = go (test a) refl (any_left test k (a + 1) n (omega arith))
  where
    go : (b : Bool) → test a ≡ b → list_any test (range_with_len (a + 1) k) ≡ some test (a + 1) n
        → (test a || list_any test (range_with_len (a + 1) k)) ≡ some test a n
    go true h left = rw (h, first_here test n a h) (sym (lt-ltb a n (omega arith)))
    go false h left = rw h (left ∙ sym (ap (λ i. ltb i n) (first_on test n a (omega arith) h)))

pub any_range : (test : ℕ → Bool) (n : ℕ) → list_any test (range_with_len 0 n) ≡ some test 0 n
any_range test n = any_left test n 0 n (omega arith)

-- the first that passes
abbrev found : (ℕ → Bool) → (a n : ℕ) → Option ℕ
found test a n = let k = first_from test n a in cond (ltb k n) (Some k) None

find_left : (test : ℕ → Bool) (k a n : ℕ) → a + k ≡ n → find test (range_with_len a k) ≡ found test a n
find_left test zero a n e = rw (first_none test n a (omega arith), le-ltb a n (omega arith))
find_left test (suc k) a n e = go (test a) refl (find_left test k (a + 1) n (omega arith))
  where
    go : (b : Bool) → test a ≡ b → find test (range_with_len (a + 1) k) ≡ found test (a + 1) n
        → cond (test a) (Some a) (find test (range_with_len (a + 1) k)) ≡ found test a n
    go true h left = rw (h, first_here test n a h, lt-ltb a n (omega arith))
    go false h left = rw (h, first_on test n a (omega arith) h) left

found_place : (k : ℕ) (b : Bool) → option_map (λ k. at k k) (cond b (Some k) None) ≡ cond b (Some (at k k)) None
found_place k true = refl
found_place k false = refl

-- as a place: P tells what the closure under `map` makes of a number
pub find_range : {P : ℕ → Place → Type 0} (test : ℕ → Bool) (n : ℕ) (r : Option ℕ) (s : Option Place) → option_map (λ k. k) r ≡ find test (range_with_len 0 n)
    → ((k : ℕ) (p : Place) → P k p → p ≡ at k k) → MatchOption r (s ≡ None) (λ k. IsSomeAnd s (P k)) → s ≡ first_on_diagonal test n
unfolding first_on_diagonal
find_range {P} test n r s e place made = go r s made ∙ ap (option_map (λ k. at k k)) (e ∙ find_left test n 0 n (omega arith)) ∙ found_place _ _
  where
    go : (r : Option ℕ) (s : Option Place) → MatchOption r (s ≡ None) (λ k. IsSomeAnd s (P k)) → s ≡ option_map (λ k. at k k) (option_map (λ k. k) r)
    go None s made = made
    go (Some k) None made = absurd made
    go (Some k) (Some p) made = ap Some (place k p made)

-- ---- a loop

pub place_here : {test : ℕ → Bool} {n k : ℕ} → Sought test n 0 k → k < n → test k ≡ true → Some (at k k) ≡ first_on_diagonal test n
unfolding first_on_diagonal
place_here {test} {n} {k} s l h = rw (← sought_here s h, lt-ltb k n l)

pub place_none : {test : ℕ → Bool} {n k : ℕ} → Sought test n 0 k → n ≤ k → None ≡ first_on_diagonal test n
unfolding first_on_diagonal
place_none {test} {n} {k} s l = rw (← sought_done s l, le-ltb k n l)
