pub mod Placed
pub mod Added
pub mod Dropped
