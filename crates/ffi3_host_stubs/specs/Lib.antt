pub mod Processor
pub mod Stubs
pub mod Calls
pub mod Slots
