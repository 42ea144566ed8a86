pub mod Cutting
pub mod Runs
pub mod Starred
pub mod Near
pub mod Standing
pub mod Keeping
pub mod Exact
pub mod Formats
mod Rows
