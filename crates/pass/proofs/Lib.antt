-- Laws that other crates may cite. `Independent`: T takes no notice of Q. `BlockFrames`: what turning and splitting a block keep. `Swept`: a column swept.
-- `Lengths`: every step keeps the lengths of T and Q.
pub mod Independent
pub mod BlockFrames
pub mod Swept
pub mod Lengths
mod BlockWays
mod Stepping
mod Fitted
