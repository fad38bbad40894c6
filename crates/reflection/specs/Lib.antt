-- What a reflection does to the columns and to the rows of a matrix (`Reflected`). `Known` has worked cases,
-- and `Inner` serves the proofs of the kernels alone.
pub mod Reflected
pub mod Inner
pub mod Known
