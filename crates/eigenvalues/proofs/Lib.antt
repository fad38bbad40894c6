-- `Real`: the real reader's two answers; `KnownFinite`: entries that are known to be finite; `BlockAnswers`: what a block answers, told of what a routine has
-- in hand; `DiagonalSearch`: a search along the diagonal; `One`: two answers that a contract allows are one.
pub mod Real
pub mod KnownFinite
pub mod BlockAnswers
pub mod DiagonalSearch
pub mod One
mod Making
mod ReaderChecks
