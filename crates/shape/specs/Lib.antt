-- `Vanished`: of a run, whether in some step of its passes an axis was not zero and its squares vanished. `Known` has
-- worked cases.
pub mod Vanished
pub mod Known
