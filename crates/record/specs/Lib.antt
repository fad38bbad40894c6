-- The text that is printed for a record of the program `looproots`. `Text`: numbers and lines; `Answer`: the text of a
-- record; `Page`: what the text is put on. `Known` has worked cases, and `Lent` serves the contracts of private
-- functions.
pub mod Text
pub mod Page
pub mod Lent
pub mod Answer
pub mod Known
