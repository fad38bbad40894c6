-- Calls by their entry. `Call`: what is answered, and what the lent slices hold afterwards.
pub mod Call
