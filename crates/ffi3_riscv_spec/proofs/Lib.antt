pub mod Shapes
pub mod Covered
pub mod Registers
mod Filled
mod Rising
pub mod Agrees
pub mod Sound
pub mod Ends
pub mod Turns
mod Rows
pub mod Alike
pub mod ByStubs
