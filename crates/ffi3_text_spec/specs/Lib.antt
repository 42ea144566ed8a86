pub mod Registers
pub mod LayoutLines
pub mod PlaceLines
