mod Tests
mod Spelling
mod Acts
pub mod Closed
mod Marks
pub mod Since
pub mod Opened
mod Callers
pub mod Moving
pub mod Blocks
mod Telling
pub mod Counting
mod Crossing
pub mod Configuring
pub mod Accepting
mod Transports
mod Passing
