-- `Plain`: the plain entry, in place and of a matrix that is kept: what it answers and what it leaves; `Known`:
-- worked cases. `Inner` serves the proofs alone.
pub mod Plain
pub mod Known
pub mod Inner
