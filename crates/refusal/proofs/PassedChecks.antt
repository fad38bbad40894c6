-- The checks that several entries make: what each tells where it has passed, and that it passes where that holds. Assumes nothing.
use Rattle.std.specs.Prelude.{None}
use Rattle.refusal.specs.Refusal.{Checked, passed}
use Prim.Native.Nat.{ℕ, ◌≤◌}
use mathlib.Core.Bool.{Bool, true, false}
use mathlib.Core.Path.{◌≡◌, refl}
use mathlib.Core.List.{List}
use native.Mathlib.Omega.{arith}
use borrow.Author.Tests.{eqb-true, eqb-false, ltb-false, eq-eqb, ne_eqb, le-ltb, not-false}
use lib.Ieee.{Float}
use Rattle.refusal.specs.declared.refusal.Place.{Place}
use Rattle.refusal.specs.declared.refusal.Refusal.{Refusal}
use Rattle.refusal.specs.declared.refusal.Refusal.TheVariants.{OrderZero, OrderTooLarge, EntryNotFinite}
use Rattle.refusal.specs.Refusal.{refuse, refuse_at, ◌next◌}
use Rattle.refusal.specs.Search.{first_not_finite}
use Rattle.refusal.specs.Checks.{order_checks, length_check, only_if, lent_lengths, matrix_lengths, entry_checks, given_checks}
use Rattle.refusal.proofs.ChecksInTurn.{in_turn, next_passed, next_passes, refuse_passed, refuse_at_passed, Only, only_next, only_refuse, only_at}

-- ---- the order

pub record Ordered (n : ℕ) : Type 0 where
  pub some : 1 ≤ n
  pub order : n ≤ 64

pub order_passed : (n : ℕ) → order_checks n ≡ passed → Ordered n
unfolding order_checks
order_passed n h =
    let a = next_passed _ _ h in
    let none = eqb-false n 0 (refuse_passed _ _ a.0) in
    record { some = omega arith; order = ltb-false 64 n (refuse_passed _ _ a.1) }

-- with what is checked behind it
pub record OrderThen (n : ℕ) (others : Checked) : Type 0 where
  pub some : 1 ≤ n
  pub order : n ≤ 64
  pub behind : others ≡ passed

pub order_then : (n : ℕ) (others : Checked) → (order_checks n next others) ≡ passed → OrderThen n others
order_then n others h =
    let a = next_passed _ _ h in
    let o = order_passed n a.0 in
    record { some = o.some; order = o.order; behind = a.1 }

pub order_passes : {n : ℕ} → 1 ≤ n → n ≤ 64 → order_checks n ≡ passed
unfolding order_checks refuse ◌next◌
order_passes {n} some order = rw (ne_eqb n 0 (λ e. omega arith), le-ltb 64 n order)

-- ---- lengths

pub length_passed : (fault : Refusal) (has needs : ℕ) → length_check fault has needs ≡ passed → has ≡ needs
unfolding length_check
length_passed fault has needs h = eqb-true has needs (not-false _ (refuse_passed _ _ h))

-- with what is checked behind it
pub record LengthThen (has needs : ℕ) (others : Checked) : Type 0 where
  pub size : has ≡ needs
  pub behind : others ≡ passed

pub length_then : (fault : Refusal) (has needs : ℕ) (others : Checked) → (length_check fault has needs next others) ≡ passed → LengthThen has needs others
length_then fault has needs others h = let a = next_passed _ _ h in record { size = length_passed fault has needs a.0; behind = a.1 }

pub length_passes : (fault : Refusal) {has needs : ℕ} → has ≡ needs → length_check fault has needs ≡ passed
unfolding length_check refuse
length_passes fault {has} {needs} e = rw (eq-eqb has needs e)

-- a check that is not asked for passes
pub asked_passed : (asked : Bool) (c : Checked) → only_if asked c ≡ passed → asked ≡ true → c ≡ passed
unfolding only_if
asked_passed asked c h e = rw e at h

pub asked_passes : (asked : Bool) (c : Checked) → (asked ≡ true → c ≡ passed) → only_if asked c ≡ passed
unfolding only_if
asked_passes true c h = h refl
asked_passes false c h = refl

-- for `grind`, in code that asks or does not
pub asked_made : (c : Checked) → only_if true c ≡ c
unfolding only_if
asked_made c = refl

pub unasked : (c : Checked) → only_if false c ≡ passed
unfolding only_if
unasked c = refl

pub ruleset asked_in_turn = (in_turn, asked_made, unasked)

-- what is lent for T and Q
pub record Lent (wanted : Bool) (needs tn qn : ℕ) : Type 0 where
  pub t : tn ≡ needs
  pub q : wanted ≡ true → qn ≡ needs

pub lent_passed : (wanted : Bool) (needs tn qn : ℕ) → lent_lengths wanted needs tn qn ≡ passed → Lent wanted needs tn qn
unfolding lent_lengths
lent_passed wanted needs tn qn h =
    let l = length_then _ tn needs _ h in
    record { t = l.size; q = λ e. length_passed _ qn needs (asked_passed wanted _ l.behind e) }

pub lent_passes : {wanted : Bool} {needs tn qn : ℕ} → Lent wanted needs tn qn → lent_lengths wanted needs tn qn ≡ passed
unfolding lent_lengths
lent_passes l = next_passes (length_passes _ l.t) (asked_passes _ _ (λ e. length_passes _ (l.q e)))

-- and for the matrix
pub record Matrices (wanted : Bool) (needs mn tn qn : ℕ) : Type 0 where
  pub m : mn ≡ needs
  pub t : tn ≡ needs
  pub q : wanted ≡ true → qn ≡ needs

pub matrices_passed : (wanted : Bool) (needs mn tn qn : ℕ) → matrix_lengths wanted needs mn tn qn ≡ passed → Matrices wanted needs mn tn qn
unfolding matrix_lengths
matrices_passed wanted needs mn tn qn h =
    let a = length_then _ mn needs _ h in
    let l = lent_passed wanted needs tn qn a.behind in
    record { m = a.size; t = l.t; q = l.q }

pub matrices_passes : {wanted : Bool} {needs mn tn qn : ℕ} → Matrices wanted needs mn tn qn → matrix_lengths wanted needs mn tn qn ≡ passed
unfolding matrix_lengths
matrices_passes l = next_passes (length_passes _ l.m) (lent_passes (record { t = l.t; q = l.q }))

-- ---- entries

pub entries_passed : (n : ℕ) (m : List Float) → entry_checks n m ≡ passed → first_not_finite n m ≡ None
unfolding entry_checks
entries_passed n m h = refuse_at_passed _ _ h

pub entries_passes : (n : ℕ) (m : List Float) → first_not_finite n m ≡ None → entry_checks n m ≡ passed
unfolding entry_checks refuse_at
entries_passes n m h = rw h

-- ---- all that is checked first

pub record Allowed (lengths : Checked) (n : ℕ) (m : List Float) : Type 0 where
  pub some : 1 ≤ n
  pub order : n ≤ 64
  pub lent : lengths ≡ passed
  pub entries : first_not_finite n m ≡ None

pub given_passed : (lengths : Checked) (n : ℕ) (m : List Float) → given_checks lengths n m ≡ passed → Allowed lengths n m
unfolding given_checks
given_passed lengths n m h =
    let o = order_then n _ h in
    let b = next_passed _ _ o.behind in
    record { some = o.some; order = o.order; lent = b.0; entries = entries_passed n m b.1 }

pub given_passes : {lengths : Checked} {n : ℕ} {m : List Float} → Allowed lengths n m → given_checks lengths n m ≡ passed
unfolding given_checks
given_passes {lengths} {n} {m} g = next_passes (order_passes g.some g.order) (next_passes g.lent (entries_passes n m g.entries))

-- ---- P holds of every refusal that they come to

pub only_order : (P : Refusal → Type 0) (n : ℕ) → P OrderZero → P OrderTooLarge → Only P (order_checks n)
unfolding order_checks
only_order P n h k = only_next P _ _ (only_refuse P _ _ h) (only_refuse P _ _ k)

pub only_length : (P : Refusal → Type 0) (fault : Refusal) (has needs : ℕ) → P fault → Only P (length_check fault has needs)
unfolding length_check
only_length P fault has needs h = only_refuse P _ fault h

pub only_asked : (P : Refusal → Type 0) (asked : Bool) (c : Checked) → Only P c → Only P (only_if asked c)
unfolding only_if
only_asked P true c h = h
only_asked P false c h = tt

pub only_entries : (P : Refusal → Type 0) (n : ℕ) (m : List Float) → ((p : Place) → P (EntryNotFinite p)) → Only P (entry_checks n m)
unfolding entry_checks
only_entries P n m h = only_at P _ _ h

pub only_given : (P : Refusal → Type 0) (lengths : Checked) (n : ℕ) (m : List Float) → P OrderZero → P OrderTooLarge → Only P lengths
    → ((p : Place) → P (EntryNotFinite p))
    → Only P (given_checks lengths n m)
unfolding given_checks
only_given P lengths n m zero large lent entry = only_next P _ _ (only_order P n zero large) (only_next P _ _ lent (only_entries P n m entry))
