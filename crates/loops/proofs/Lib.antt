-- Laws of the definitions in `Until`, `Place` and what rests on `Until`. They stand here, and the others beside their
-- definitions, since a wrong version changes those two: it is to be refused, and not unreadable.
pub mod Until
pub mod First
pub mod Counted
pub mod Portions
pub mod Threshold
pub mod Place
