-- Laws that other crates may cite: what the kernels change and what they leave alone (`Frames`), and a reflection of both sides by portions
-- (`Portions`). The others are one turn of a kernel's loop: down a column (`ColumnTurn`) and along one row, four or eight: their sums (`RowSums`),
-- a turn (`RowTurn`) and what the loops keep (`RowLoops`).
pub mod Frames
pub mod Portions
mod ColumnTurn
mod RowSums
mod RowTurn
mod RowLoops
