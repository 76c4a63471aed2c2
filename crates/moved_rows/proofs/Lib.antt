pub mod Filters
pub mod Removed
pub mod Kept
pub mod TakenOut
pub mod Moved
