pub mod Words
pub mod Pieces
pub mod Copies
pub mod Places
pub mod Laws
pub mod Entries
pub mod Arguments
mod Rows
