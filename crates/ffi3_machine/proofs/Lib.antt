pub mod Written
pub mod Slots
pub mod Recording
pub mod Standing
pub mod Stubs
pub mod Words
