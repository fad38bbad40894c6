-- `Window`: delimiting, from the end upward and then to the start. `Inner` serves the proofs alone.
pub mod Window
pub mod Inner
