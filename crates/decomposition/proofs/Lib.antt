-- Laws that other crates may cite. `CheckedArguments`: what follows where all checks of the arguments have passed; `Touched`: what lent memory holds
-- afterwards; `Count`: the answer by the counted passes; `Shape`: an accepted T is finite and quasi-triangular, an accepted Q finite; `Independent`: an
-- accepted T and its count do not depend on Q; `Lent`: nothing depends on what lent memory held; `One`: two answers that the contract allows are one.
pub mod CheckedArguments
pub mod Touched
pub mod Count
pub mod Shape
pub mod Independent
pub mod Lent
pub mod One
mod Judging
mod Promised
