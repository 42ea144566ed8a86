pub mod Resolving
pub mod SameFaults
pub mod Nodes
