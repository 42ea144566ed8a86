pub mod Inputs
mod Rows
