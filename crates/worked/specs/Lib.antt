-- Worked cases that take long to evaluate, apart from the definitions that they try. `Runs`: the whole run.
pub mod Runs
