pub mod Amd64
pub mod Ends
