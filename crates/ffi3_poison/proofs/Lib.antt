pub mod Searching
pub mod StillOwned
pub mod Poisoning
