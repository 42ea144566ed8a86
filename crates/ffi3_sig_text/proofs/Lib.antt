pub mod Texts
mod Plain
