pub mod Ancestors
pub mod Walked
