-- Laws that other crates may cite. `Numbers`: which numbers are an acceptance's, and which a refusal's.
pub mod Numbers
