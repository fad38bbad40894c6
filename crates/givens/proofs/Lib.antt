-- Laws that other crates may cite: what the two kernels change and what they leave alone.
pub mod Frames
mod RotatedTurns
