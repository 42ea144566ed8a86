pub mod Object
pub mod Room
pub mod Input
pub mod Lines
pub mod Answer
