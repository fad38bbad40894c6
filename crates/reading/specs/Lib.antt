-- Reading from a reader. `Reading`: what one read comes to, and all of them together.
pub mod Reading
