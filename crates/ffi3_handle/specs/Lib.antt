pub mod Owned
pub mod Kept
pub mod Lending
