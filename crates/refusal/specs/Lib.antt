-- What a caller is refused. `Refusal`: each case's number and place, and several checks in turn; `Search`: the first
-- entry at fault; `Checks`: the checks that several entries make alike; `Shape`: what holds of the whole matrix where
-- no entry is at fault. `Inner` serves proofs alone.
pub mod Refusal
pub mod Search
pub mod Checks
pub mod Shape
pub mod Inner
