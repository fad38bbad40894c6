-- The refusals of document 01's table: the number of each, and the place that it tells.
use Rattle.std.specs.Prelude.{ℕ, Bool, cond, Option, Some, None, Result, Ok, Err}
use Rattle.refusal.specs.declared.refusal.Place.{Place}
use Rattle.refusal.specs.declared.refusal.Refusal.{Refusal}
use Rattle.refusal.specs.declared.refusal.Refusal.TheVariants.{OrderZero, OrderTooLarge, WrongLength}
use Rattle.refusal.specs.declared.refusal.Refusal.TheVariants.{ToleranceOutside, BudgetOutside, EntryNotFinite}
use Rattle.refusal.specs.declared.refusal.Refusal.TheVariants.{BudgetReached, ResultNotFinite, ShapeSpoiled}
use Rattle.refusal.specs.declared.refusal.Refusal.TheVariants.{ComplexEigenvalues, BlockNotComplex}
use Rattle.refusal.specs.declared.refusal.Refusal.TheVariants.{InputCutShort, UnknownKind, InputLengthWrong}
use Rattle.refusal.specs.declared.refusal.Told.{Told}

abbrev pub at : (row col : ℕ) → Place
at row col = record { row = row; col = col }

abbrev pub with_place : ℕ → Place → Told
with_place number p = record { number = number; row = p.row; col = p.col }

abbrev pub without_place : ℕ → Told
without_place number = with_place number (at 0 0)

unfoldable pub told_of : Refusal → Told
told_of OrderZero = without_place 1
told_of OrderTooLarge = without_place 2
told_of WrongLength = without_place 3
told_of ToleranceOutside = without_place 4
told_of BudgetOutside = without_place 5
told_of (EntryNotFinite p) = with_place 6 p
told_of BudgetReached = without_place 7
told_of (ResultNotFinite p) = with_place 8 p
told_of (ShapeSpoiled p) = with_place 9 p
told_of ComplexEigenvalues = without_place 10
told_of (BlockNotComplex p) = with_place 11 p
told_of InputCutShort = without_place 12
told_of UnknownKind = without_place 13
told_of InputLengthWrong = without_place 14

-- what one check, or several in turn, come to
abbrev pub Checked : Type 0
Checked = Result (Unit {0}) Refusal

abbrev pub passed : Checked
passed = Ok tt

-- what checks tell: the number and the place of the refusal, 0 where all have passed
unfoldable pub checked_told : Checked → Told
checked_told (Ok u) = without_place 0
checked_told (Err r) = told_of r

-- ---- checks: the first that does not pass is what is answered

-- r where the fault is there
unfoldable pub refuse : Bool → Refusal → Checked
refuse fault r = cond fault (Err r) passed

-- the same with the place that a search found
unfoldable pub refuse_at : (Place → Refusal) → Option Place → Checked
refuse_at r (Some p) = Err (r p)
refuse_at r None = passed

infixr 30 ◌next◌
unfoldable pub ◌next◌ : Checked → Checked → Checked
◌next◌ (Ok u) c = c
◌next◌ (Err r) c = Err r

-- what is left of lent memory: x after all checks have passed, and y where one has not
unfoldable pub if_passed : {A : Type 0} → Checked → A → A → A
if_passed (Ok u) x y = x
if_passed (Err r) x y = y
