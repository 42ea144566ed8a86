pub mod Keeping
pub mod Numbers
pub mod Transfers
pub mod Listing
