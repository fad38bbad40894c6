-- Laws on plain numbers and on patterns that the proofs of the root's functions share.
pub mod Whole
pub mod Units
pub mod Steps
pub mod NearOne
pub mod Special
