pub mod Moves
pub mod Accesses
