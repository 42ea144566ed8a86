pub mod Wants
pub mod Resolves
