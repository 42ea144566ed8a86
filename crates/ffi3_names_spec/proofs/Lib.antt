pub mod Passing
pub mod Signs
pub mod Naming
pub mod NameRows
