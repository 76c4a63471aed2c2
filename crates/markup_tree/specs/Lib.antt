pub mod Pieces
pub mod Documents
pub mod Escapes
pub mod Stacks
