pub mod Needs
mod Texts
mod Measuring
mod ThreeLines
