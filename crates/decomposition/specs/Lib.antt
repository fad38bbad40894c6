-- The decomposition with its refusals. `Checks`: what is looked at before the run and after it; `Decomposition`: the
-- whole answer; `Inner`: what the inner functions promise; `Known`: worked cases.
pub mod Checks
pub mod Decomposition
pub mod Inner
pub mod Known
