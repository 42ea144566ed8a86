pub mod Positions
pub mod ToldText
