pub mod Depth
pub mod Rope
