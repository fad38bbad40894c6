-- Floats in bytes. `Words`: eight bytes and the number they make; `Floats`: the floats in a list of bytes, and the
-- bytes of a list of floats. `Known` has worked cases, and `Inner` serves proofs alone.
pub mod Words
pub mod Floats
pub mod Known
pub mod Inner
