pub mod Reaching
pub mod Wording
