pub mod Attempts
pub mod Tags
pub mod Instructions
