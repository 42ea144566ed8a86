pub mod Numbering
pub mod Asked
pub mod Handing
