-- Laws that other crates may cite. `Fitting` turns the guard into the facts that index proofs need; `Blocks` and `Kernels` say what is
-- done to the entries of a block and what is left alone, once for every kernel; `Walks` has a kernel's loop from its guard to its end, and
-- `Turns` one turn of it; `Each` is about the numbers of a list rewritten one by one, `Filled` about one that a loop fills, `Copied` about
-- one copied into another, `Largest` about the largest magnitude, `Sums` about the two orders of a sum, `Moving` about one whose lists
-- move on by eight; `One`: two answers that a contract allows are one.
pub mod Fitting
pub mod Blocks
pub mod Kernels
pub mod Walks
pub mod Turns
pub mod Each
pub mod Filled
pub mod Copied
pub mod Largest
pub mod Sums
pub mod Moving
pub mod One
