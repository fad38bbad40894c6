-- The vocabulary of the port's definitions, and the laws about it that proofs need; those of `Until`, of what rests on
-- it and of `place` are in proofs.
-- Read `Rounded` and `Constants` for arithmetic, `Place` and `Part` for a matrix in a list, `Table` for a list told
-- place by place, `Times`, `Down`, `Until` and `First` for loops; `Counted` for runs that count their turns, with
-- `Threshold` (as the budget grows) and `Portions` (parked and taken up again); `One` for contracts as equations.
-- `Tests` serves proofs alone.
pub mod Rounded
pub mod Constants
pub mod Place
pub mod Part
pub mod Times
pub mod Down
pub mod Until
pub mod Counted
pub mod Threshold
pub mod Portions
pub mod First
pub mod Table
pub mod One
pub mod Tests
