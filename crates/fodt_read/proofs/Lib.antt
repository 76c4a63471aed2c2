pub mod Pieces
pub mod Content
pub mod Escapes
pub mod Numeral
pub mod Runs
pub mod Texts
pub mod Loaded
pub mod Faults
