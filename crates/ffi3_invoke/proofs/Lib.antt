pub mod Stretches
pub mod Reached
pub mod Changed
pub mod Passed
pub mod Accepted
pub mod Returned
pub mod Made
