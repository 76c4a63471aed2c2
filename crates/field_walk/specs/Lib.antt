pub mod Lists
pub mod Holds
pub mod Order
pub mod Chapters
pub mod Steps
pub mod Gaps
pub mod Seen
