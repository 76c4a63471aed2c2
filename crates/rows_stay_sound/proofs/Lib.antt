pub mod Neutral
pub mod Halves
pub mod Sections
pub mod Unwrapped
