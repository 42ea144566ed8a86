pub mod Classes
pub mod Flat
