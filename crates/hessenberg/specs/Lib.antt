-- `Reduced`: the reduction, column by column. `Unpacked`: H and Q out of what it leaves. `Known` has worked cases.
pub mod Reduced
pub mod Unpacked
pub mod Known
