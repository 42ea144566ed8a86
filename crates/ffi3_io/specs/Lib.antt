pub mod Adapter
pub mod Memory
