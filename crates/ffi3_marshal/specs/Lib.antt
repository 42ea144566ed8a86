pub mod Stored
pub mod Read
pub mod Standing
