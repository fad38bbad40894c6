-- What f64's own functions are. Read `Root` and `Rooted` for the square root, `Sign` for sign and magnitude, `Class`
-- for the tests; `Known` has worked cases, and `Inner` serves the proof of the root alone.
pub mod Root
pub mod Rooted
pub mod Sign
pub mod Class
pub mod Known
pub mod Inner
