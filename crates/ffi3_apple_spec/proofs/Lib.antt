pub mod Packed
mod Rising
pub mod Agrees
pub mod Sound
pub mod Ends
mod Rows
pub mod Alike
pub mod ByStubs
