pub mod Keys
pub mod Whats
pub mod Pieces
