pub mod Natives
