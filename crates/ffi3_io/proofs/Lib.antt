pub mod Adding
pub mod Giving
pub mod Reading
pub mod Writing
