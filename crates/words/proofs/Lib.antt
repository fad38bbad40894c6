-- Laws that other crates may cite. `Chunks`: eight bytes as std makes a number of them, and the floats in a list of bytes; `FinitePatterns`: which patterns are
-- finite; `Bytes`: the bytes of a list of floats, and what was written is read back; `Between`: floats that were read, filled and written.
pub mod Chunks
pub mod FinitePatterns
pub mod Bytes
pub mod Between
