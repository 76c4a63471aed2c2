pub mod Lines
pub mod Saves
