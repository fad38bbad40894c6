-- The checks that several entries make alike, each by itself. An entry joins them by `next`, in the order of document
-- 01's table.
use Rattle.refusal.specs.Refusal.{Checked, passed}
use Rattle.std.specs.Prelude.{ℕ, Bool, cond, not, List, eqb, ltb, Float}
use Rattle.refusal.specs.declared.refusal.Refusal.{Refusal}
use Rattle.refusal.specs.declared.refusal.Refusal.TheVariants.{OrderZero, OrderTooLarge, WrongLength}
use Rattle.refusal.specs.declared.refusal.Refusal.TheVariants.{EntryNotFinite}
use Rattle.refusal.specs.Refusal.{refuse, refuse_at, ◌next◌}
use Rattle.refusal.specs.Search.{first_not_finite}

-- 1 and 2
unfoldable pub order_checks : ℕ → Checked
order_checks n = refuse (eqb n 0) OrderZero next refuse (ltb 64 n) OrderTooLarge

-- ---- lengths, in numbers or in bytes

-- what is lent has another length than it needs: `fault` tells of it
unfoldable pub length_check : (fault : Refusal) → (has needs : ℕ) → Checked
length_check fault has needs = refuse (not (eqb has needs)) fault

-- a check that is made only where it is asked for: Q's, where Q is wanted
unfoldable pub only_if : (asked : Bool) → Checked → Checked
only_if asked c = cond asked c passed

-- what is lent for T, and for Q where it is wanted: both need as much
unfoldable pub lent_lengths : (wanted : Bool) → (needs tn qn : ℕ) → Checked
lent_lengths wanted needs tn qn = length_check WrongLength tn needs next only_if wanted (length_check WrongLength qn needs)

-- the same behind the matrix, which needs as much too
unfoldable pub matrix_lengths : (wanted : Bool) → (needs mn tn qn : ℕ) → Checked
matrix_lengths wanted needs mn tn qn = length_check WrongLength mn needs next lent_lengths wanted needs tn qn

-- ---- entries

-- 6
unfoldable pub entry_checks : ℕ → List Float → Checked
entry_checks n m = refuse_at EntryNotFinite (first_not_finite n m)

-- ---- what the readers and the plain entry check first: `lengths` are the checks of all that is lent
unfoldable pub given_checks : (lengths : Checked) → (n : ℕ) → (m : List Float) → Checked
given_checks lengths n m = order_checks n next lengths next entry_checks n m
