pub mod WordCommands
pub mod Words
