pub mod Poison
pub mod Overwritten
