pub mod Play
pub mod Moves
pub mod Exchange
pub mod Laws
pub mod Told
