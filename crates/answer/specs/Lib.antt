-- `Answer`: what the library answers, as one number.
pub mod Answer
