-- `Marked`: that the table of specs comes true.
pub mod Marked
