pub mod Rows
pub mod ListTypes
pub mod Evaluated
pub mod Parts
pub mod PartOf
mod Walked
mod Agreed
mod Pasts
