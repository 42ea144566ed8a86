pub mod Agreeing
pub mod Running
pub mod Ran
pub mod Ready
pub mod Started
pub mod Serving
