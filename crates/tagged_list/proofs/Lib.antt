pub mod Counts
pub mod Finds
pub mod Halves
pub mod Lasts
pub mod Parts
pub mod Sets
