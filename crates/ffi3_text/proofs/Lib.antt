pub mod Words
pub mod Kept
pub mod Parts
mod Rows
