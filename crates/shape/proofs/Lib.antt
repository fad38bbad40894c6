-- The shape of T by the run's own steps (document 00, demand 3). Read `Nine` for the theorems over the entries and `Run` for those over a run;
-- `Passed`, with `Bulge`, is a pass, `Split` a window of two, `Delimited` what stands after delimiting, `Zeros` what zeros do.
pub mod Nine
pub mod Run
pub mod Passed
pub mod Bulge
pub mod Split
pub mod Delimited
pub mod Zeros
