mod Rows
pub mod Steps
pub mod Depths
pub mod Opens
pub mod Interruptions
pub mod Nested
pub mod Coming
pub mod Ending
pub mod TracedCalls
