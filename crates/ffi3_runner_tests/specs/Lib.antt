pub mod Hostile
pub mod Shown
