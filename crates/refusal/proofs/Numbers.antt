-- The numbers of document 01's table: number and place tell the refusal. Assumes nothing.
use Rattle.std.specs.Prelude.{Err, Ok}
use Rattle.refusal.specs.Refusal.{Checked, passed}
use Prim.Native.Nat.{ℕ, ◌≤◌}
use mathlib.Core.Bool.{cond}
use mathlib.Core.Path.{◌≡◌, refl, sym, ap, ◌∙◌}
use native.Mathlib.Omega.{arith}
use lib.Dec.{eqb}
use Rattle.refusal.specs.declared.refusal.Place.{Place}
use Rattle.refusal.specs.declared.refusal.Refusal.{Refusal}
use Rattle.refusal.specs.declared.refusal.Refusal.TheVariants.{OrderZero, OrderTooLarge, WrongLength, ToleranceOutside, BudgetOutside, EntryNotFinite}
use Rattle.refusal.specs.declared.refusal.Refusal.TheVariants.{BudgetReached, ResultNotFinite, ShapeSpoiled, ComplexEigenvalues, BlockNotComplex}
use Rattle.refusal.specs.declared.refusal.Refusal.TheVariants.{InputCutShort, UnknownKind, InputLengthWrong}
use Rattle.refusal.specs.declared.refusal.Told.{Told}
use Rattle.refusal.specs.Refusal.{at, told_of, checked_told}

-- ---- the refusal by its number and its place

unfoldable refusal_by : ℕ → Place → Refusal
refusal_by k p =
    cond (eqb k 1) OrderZero
    (cond (eqb k 2) OrderTooLarge
    (cond (eqb k 3) WrongLength
    (cond (eqb k 4) ToleranceOutside
    (cond (eqb k 5) BudgetOutside
    (cond (eqb k 6) (EntryNotFinite p)
    (cond (eqb k 7) BudgetReached
    (cond (eqb k 8) (ResultNotFinite p)
    (cond (eqb k 9) (ShapeSpoiled p)
    (cond (eqb k 10) ComplexEigenvalues
    (cond (eqb k 11) (BlockNotComplex p)
    (cond (eqb k 12) InputCutShort
    (cond (eqb k 13) UnknownKind InputLengthWrong))))))))))))

abbrev place_of : Told → Place
place_of x = at x.row x.col

by_number : (r : Refusal) → refusal_by (told_of r).number (place_of (told_of r)) ≡ r
unfolding refusal_by told_of
by_number OrderZero = refl
by_number OrderTooLarge = refl
by_number WrongLength = refl
by_number ToleranceOutside = refl
by_number BudgetOutside = refl
by_number (EntryNotFinite p) = refl
by_number BudgetReached = refl
by_number (ResultNotFinite p) = refl
by_number (ShapeSpoiled p) = refl
by_number ComplexEigenvalues = refl
by_number (BlockNotComplex p) = refl
by_number InputCutShort = refl
by_number UnknownKind = refl
by_number InputLengthWrong = refl

-- two refusals that tell the same are one
pub told_one : {r s : Refusal} → told_of r ≡ told_of s → r ≡ s
told_one {r} {s} e = sym (by_number r) ∙ ap (λ (x : Told). refusal_by x.number (place_of x)) e ∙ by_number s

-- a number's refusal
numbered : {k : ℕ} (r : Refusal) → (told_of r).number ≡ k → r ≡ refusal_by k (place_of (told_of r))
numbered r e = sym (by_number r) ∙ ap (λ k. refusal_by k (place_of (told_of r))) e

pub told_ten : {r : Refusal} → (told_of r).number ≡ 10 → r ≡ ComplexEigenvalues
unfolding refusal_by
told_ten {r} e = numbered r e

-- ---- which numbers there are

pub told_range : (r : Refusal) → (1 ≤ (told_of r).number) × ((told_of r).number ≤ 14)
unfolding told_of
told_range OrderZero = (omega arith, omega arith)
told_range OrderTooLarge = (omega arith, omega arith)
told_range WrongLength = (omega arith, omega arith)
told_range ToleranceOutside = (omega arith, omega arith)
told_range BudgetOutside = (omega arith, omega arith)
told_range (EntryNotFinite p) = (omega arith, omega arith)
told_range BudgetReached = (omega arith, omega arith)
told_range (ResultNotFinite p) = (omega arith, omega arith)
told_range (ShapeSpoiled p) = (omega arith, omega arith)
told_range ComplexEigenvalues = (omega arith, omega arith)
told_range (BlockNotComplex p) = (omega arith, omega arith)
told_range InputCutShort = (omega arith, omega arith)
told_range UnknownKind = (omega arith, omega arith)
told_range InputLengthWrong = (omega arith, omega arith)

-- ---- of checks

pub none_told : {c : Checked} → (checked_told c).number ≡ 0 → c ≡ passed
unfolding checked_told
none_told {c = Ok u} e = refl
none_told {c = Err r} e = let some = (told_range r).0 in absurd (omega arith)

pub ten_told : {c : Checked} → (checked_told c).number ≡ 10 → c ≡ Err ComplexEigenvalues
unfolding checked_told
ten_told {c = Ok u} e = absurd (omega arith)
ten_told {c = Err r} e = ap Err (told_ten e)
