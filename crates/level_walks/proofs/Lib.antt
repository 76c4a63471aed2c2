pub mod Lists
pub mod Reached
pub mod Rows
pub mod Steps
pub mod Ordered
pub mod Live
