pub mod Tellings
pub mod Texts
pub mod Words
pub mod ArgumentLines
pub mod Answering
pub mod Rooms
