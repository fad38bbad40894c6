-- Laws that other crates may cite. `FitHeader`: what a header without fault tells; `Longer`: an input is examined by its first 8213 bytes; `Rooms`: how many
-- entries a matrix of the program has. For the proofs here: `Fields`, the fields of a header out of their bytes.
pub mod FitHeader
pub mod Longer
pub mod Rooms
mod Fields
