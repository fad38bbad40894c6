-- Laws that other crates may cite. `One`: two answers that a contract allows are one; `Longer`: the text of an input is that of its first 8213 bytes. For the
-- proofs here: `Paging`, text put on a page piece by piece; `LineLoop`, line after line; `Digits`, the digits of a number, and how many there are.
pub mod One
pub mod Longer
mod Paging
mod LineLoop
mod Digits
