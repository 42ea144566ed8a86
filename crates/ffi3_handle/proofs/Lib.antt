pub mod Words
mod Fields
mod Values
mod Crosses
