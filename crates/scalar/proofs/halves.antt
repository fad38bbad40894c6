-- Laws of numbers in two words.
pub mod Laws
