pub mod Apple
pub mod Ends
