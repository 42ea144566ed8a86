pub mod Agrees
pub mod LongDoubles
pub mod Covered
pub mod Filled
mod Rising
pub mod Registers
pub mod Sound
pub mod Ends
pub mod Steps
mod Rows
pub mod Alike
pub mod ByStubs
