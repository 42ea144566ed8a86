mod RowStandard
mod Rows
mod StopRows
mod NativeRows
pub mod Recursion
pub mod MoreStack
pub mod Aligned
pub mod Texts
