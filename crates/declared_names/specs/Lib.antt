pub mod Kept
pub mod Used
pub mod Names
pub mod Merge
