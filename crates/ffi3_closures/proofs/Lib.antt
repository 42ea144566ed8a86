pub mod Bytes
pub mod Holding
pub mod Trampolines
pub mod Live
pub mod Steps
pub mod Counting
