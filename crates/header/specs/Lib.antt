-- The header of a record of `looproots`. `Record`: what lies where, what is checked of it, and what that comes to.
pub mod Record
