-- Laws that other crates may cite. `Frames`: what the reduction, H and Q keep, and where H is zero; `Lent`: what lent memory held is not felt.
pub mod Frames
pub mod Lent
mod Column
