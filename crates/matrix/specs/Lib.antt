-- What the sums and the building stones on a matrix are. Read `Sum` for the two orders of a sum, `Vectors` for dot
-- product, norm, scaling and filling, `Fits` and `Entries` for a block of a matrix and what is done to each of its
-- entries, `Product` for a row times a vector; `Known` has worked cases.
pub mod Sum
pub mod Vectors
pub mod Fits
pub mod Entries
pub mod Product
pub mod Known
