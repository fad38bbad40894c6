-- `Setting`: what a run is asked for. `Pair`: T and Q together. `Pass`: the double-shift pass. `Block`: a block of
-- two, and order 2. `Inner` serves the contracts of private functions alone.
pub mod Setting
pub mod Pair
pub mod Pass
pub mod Block
pub mod Inner
