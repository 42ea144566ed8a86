pub mod Stored
pub mod Places
pub mod Packed
pub mod Standing
pub mod Calls
pub mod Collected
