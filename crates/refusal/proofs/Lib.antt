-- Laws that other crates may cite. `Searching`: a search as a loop or as `find` makes it; `NotFinite`: what one look at an entry tells, and
-- where no entry is found that is not finite; `Spoiling`: which entries spoil the shape; `Shape`: what holds of the matrix where none is at
-- fault; `ChecksInTurn`: checks in turn; `PassedChecks`: what each check that several entries make tells; `Numbers`: that number and place
-- tell the refusal.
pub mod Searching
pub mod NotFinite
pub mod Spoiling
pub mod Shape
pub mod ChecksInTurn
pub mod PassedChecks
pub mod Numbers
