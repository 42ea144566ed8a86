pub mod Loaded
pub mod Called
