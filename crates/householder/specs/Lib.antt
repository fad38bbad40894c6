-- `Axis`: the axis of a reflection and the three ways in which its making may end. `Cleared`: one column cleared by it.
-- `Assembled`: Q from the axes that the reduction left. `Known` has worked cases.
pub mod Axis
pub mod Cleared
pub mod Assembled
pub mod Known
