-- What a rotation is and how it is made (`Rotation`), and what it does to rows and to columns of a matrix (`Rotated`);
-- `Known` has worked cases.
pub mod Rotation
pub mod Rotated
pub mod Known
