pub mod Loops
pub mod Marks
pub mod Narrow
pub mod Ready
pub mod Ends
pub mod Turns
pub mod Standing
pub mod Top
