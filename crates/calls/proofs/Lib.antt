-- `One`: two answers that the contract allows are one. `Calling`: what each entry comes to, stated of the pieces that the code has in hand.
pub mod One
mod Calling
