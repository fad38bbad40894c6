-- `Lengths`: delimiting keeps the length of T; `Standing`: where the window stands behind it. Other crates may cite them.
pub mod Lengths
pub mod Standing
mod Turns
