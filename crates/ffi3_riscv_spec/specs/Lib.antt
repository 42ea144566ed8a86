pub mod Riscv
pub mod Ends
