-- `Run`: the whole run, over the definitions of `window` and `pass`. `Opened` names what worked cases compute with (the
-- run's own are in the crate `worked`), and `Inner` serves the contracts of private functions alone.
pub mod Run
pub mod Inner
pub mod Opened
