-- The checks of both readers: what is known where all have passed. Assumes nothing.
use Prim.Native.Nat.{ℕ, ◌*◌}
use Rattle.std.proofs.Common.{Fits, w64}
use mathlib.Core.Path.{◌≡◌, sym, ◌∙◌}
use native.Mathlib.Omega.{arith}
use mathlib.Core.List.{List}
use lib.ListN.{length}
use lib.Ieee.{Float}
use Rattle.loops.specs.Place.{square_64}
use Rattle.refusal.specs.declared.refusal.Refusal.TheVariants.{WrongLength}
use Rattle.refusal.specs.Refusal.{Checked, passed, ◌next◌}
use Rattle.refusal.specs.Checks.{order_checks, length_check, given_checks}
use Rattle.refusal.proofs.ChecksInTurn.{next_passed, next_before}
use Rattle.refusal.proofs.PassedChecks.{order_passed, order_then, length_passed, length_then}
use Rattle.eigenvalues.specs.Inner.{Square}
use Rattle.eigenvalues.specs.Readers.{readable}

-- ---- what both readers check

pub record Fit (n len : ℕ) (lists : Checked) : Type 0 where
  pub square : Square n len
  pub room : lists ≡ passed

-- the order, T's length, the lists
pub sizes_fit : (n len : ℕ) (lists : Checked) → (order_checks n next length_check WrongLength len (n * n) next lists) ≡ passed → Fit n len lists
sizes_fit n len lists h =
    let o = order_then _ _ h in
    let l = length_then _ _ _ _ o.behind in
    record { square = record { order = o.order; size = l.size }; room = l.behind }

-- the entries stand behind them
pub given_fit : (n : ℕ) (t : List Float) (lists : Checked) → given_checks (length_check WrongLength (length t) (n * n) next lists) n t ≡ passed
    → Fit n (length t) lists
unfolding given_checks
given_fit n t lists h = sizes_fit n _ lists (next_before _ _ _ h)

pub readable_fit : (n : ℕ) (t : List Float) (lists : Checked) → readable (length_check WrongLength (length t) (n * n) next lists) n t ≡ passed
    → Fit n (length t) lists
unfolding readable
readable_fit n t lists h = given_fit n t lists (next_passed _ _ h).0

-- ---- in code: what each check has come to, one behind the other

-- the order has passed
pub order_ready : (n : ℕ) {o : Checked} → o ≡ order_checks n → o ≡ passed → Fits w64 (n * n)
order_ready n e h = omega (arith, square_64 n (order_passed n (sym e ∙ h)).order)

-- and the lengths of T and of the list
pub real_ready : {n tn vn : ℕ} {o l v : Checked} → o ≡ order_checks n → o ≡ passed → l ≡ length_check WrongLength tn (n * n) → l ≡ passed
    → v ≡ length_check WrongLength vn n → v ≡ passed → Square n tn × (vn ≡ n)
real_ready {n} e h f k g m =
    (record { order = (order_passed n (sym e ∙ h)).order; size = length_passed _ _ _ (sym f ∙ k) }, length_passed _ _ _ (sym g ∙ m))

-- and of both lists
pub complex_ready : {n tn re im : ℕ} {o l v : Checked} → o ≡ order_checks n → o ≡ passed → l ≡ length_check WrongLength tn (n * n) → l ≡ passed
    → v ≡ (length_check WrongLength re n next length_check WrongLength im n) → v ≡ passed → Square n tn × (re ≡ n) × (im ≡ n)
complex_ready {n} e h f k g m =
    let a = length_then _ _ _ _ (sym g ∙ m) in
    (record { order = (order_passed n (sym e ∙ h)).order; size = length_passed _ _ _ (sym f ∙ k) }, a.size, length_passed _ _ _ a.behind)
