pub mod Aapcs64
pub mod Ends
