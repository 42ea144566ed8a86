pub mod Tellings
pub mod Paths
pub mod Objects
pub mod Items
mod Signatures
pub mod Short
pub mod InTexts
