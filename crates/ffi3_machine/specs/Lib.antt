pub mod MachineStep
pub mod Scribbled
pub mod Entries
pub mod Fields
