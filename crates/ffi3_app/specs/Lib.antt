pub mod LineEnds
pub mod Work
