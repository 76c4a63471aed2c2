pub mod Blocks
pub mod Events
pub mod Kept
pub mod Parts
pub mod Steps
pub mod Numbers
pub mod Whole
