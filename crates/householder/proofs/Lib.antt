-- Laws that other crates may cite. `Ways`: the axis by its three ways, and that it is as long as its column; `Frames`: what is left alone; `Lent`: what lent
-- memory held is not felt; `One`: two answers that a contract allows are one.
pub mod Ways
pub mod Frames
pub mod Lent
pub mod One
mod Identity
mod Empty
pub mod Bounds
