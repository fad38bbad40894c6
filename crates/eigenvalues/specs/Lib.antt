-- The readers of a given T. `Blocks`: the blocks on T's diagonal and what each answers; `Readers`: the real and the
-- complex reader; `Real`: what the real reader promises; `Inner`: what the inner functions ask; `Known`: worked cases.
pub mod Blocks
pub mod Readers
pub mod Real
pub mod Inner
pub mod Known
