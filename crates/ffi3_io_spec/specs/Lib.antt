pub mod Count
pub mod Sink
pub mod Source
pub mod Written
