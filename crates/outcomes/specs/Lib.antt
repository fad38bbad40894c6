-- The matrices with known outcomes of document 01. `Call`: a call as a caller makes it, and all that comes of it;
-- `Marked`: items a to n, one table; that it comes true is one statement, `marked` of proofs.
pub mod Call
pub mod Marked
