pub mod Names
pub mod Scan
pub mod Laws
