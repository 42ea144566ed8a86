pub mod Agrees
mod Registers
pub mod Covered
pub mod Filled
mod Rising
pub mod Sound
pub mod Turns
pub mod Positions
pub mod Alike
pub mod ByStubs
mod Rows
