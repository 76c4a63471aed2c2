pub mod Blocks
pub mod Labels
pub mod Texts
pub mod Stated
