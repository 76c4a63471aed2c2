pub mod Sections
pub mod Counts
pub mod Longest
pub mod Names
