-- Laws that other crates may cite. `Independent`: T, the answer and the count do not depend on Q; `Lent`: nor, with Q, on what lent memory held; `Counting`:
-- the answer by the count; `Windows`: where the window can stand; `Lengths`: T and Q stay as long as they were;
-- `RunAnswers`: what the test of the arguments tells.
pub mod Independent
pub mod Lent
pub mod Counting
pub mod Windows
pub mod Lengths
pub mod RunAnswers
mod Ends
