pub mod Turns
pub mod Bytes
pub mod Places
pub mod Extended
pub mod Filled
pub mod Storing
pub mod Stubs
pub mod Passing
pub mod Whole
pub mod Collecting
pub mod Returning
pub mod Telling
mod Rows
