pub mod Blocks
pub mod Follow
pub mod Fitting
