pub mod Nodes
pub mod Faults
pub mod Read
