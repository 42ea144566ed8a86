pub mod Encoding
pub mod Memory
pub mod State
pub mod Stubs
pub mod Recorded
pub mod Slots
