-- Laws that other crates may cite. `Arriving`: what one read comes to. `Filling`: what all of them make of the room, what
-- they leave of it as it was, and that as many bytes as are told lie within it.
pub mod Arriving
pub mod Filling
-- what `fill` keeps while it reads
mod Going
