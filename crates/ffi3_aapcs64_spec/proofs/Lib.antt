pub mod Registers
pub mod Covered
pub mod Halves
pub mod Rising
pub mod Agrees
pub mod Sound
pub mod Ends
pub mod Steps
mod Rows
pub mod Alike
pub mod ByStubs
