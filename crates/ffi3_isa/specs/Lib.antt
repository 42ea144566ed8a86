pub mod Fields
pub mod Amd64
pub mod Aarch64
pub mod Riscv
pub mod Registers
