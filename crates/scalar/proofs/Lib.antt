-- Laws that other crates may cite. `Theorem` and `Unique` say what the root's definition is; `Patterns` goes between floats and their
-- patterns, NaN among them; `Signs` has sign and magnitude.
pub mod Theorem
pub mod Unique
pub mod Patterns
pub mod Signs
