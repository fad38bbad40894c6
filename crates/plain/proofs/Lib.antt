-- `InPlace`: the three entries, one by another; `PlainRun`: the plain entry by the decomposition; `Accepted`: an accepted T may be read; `Lent`: what
-- lent memory held is not felt; `One`: two answers
-- that a contract allows are one; `Plainly`: the plain entry, told of the pieces that the code has in hand.
pub mod InPlace
pub mod PlainRun
pub mod Accepted
pub mod Lent
pub mod One
mod Plainly
