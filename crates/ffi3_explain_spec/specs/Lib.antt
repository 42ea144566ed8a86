pub mod Standards
pub mod Explain
pub mod Laws
pub mod Entries
pub mod Arguments
pub mod ArgumentLaws
