pub mod ToldOf
