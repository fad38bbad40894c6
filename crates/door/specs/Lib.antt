-- The door: the library over numbers and byte slices. `Matrices`: the decomposition, what it answers and the bytes
-- that it leaves, and what an acceptance promises of them; `Lists`: what the readers and the plain entry answer and
-- leave. `Inner` serves the contracts of private functions alone.
pub mod Matrices
pub mod Lists
pub mod Inner
