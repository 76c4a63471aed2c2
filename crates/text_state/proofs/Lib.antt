pub mod Opened
pub mod NewStyle
pub mod Gathered
pub mod Followed
pub mod Numbers
pub mod Declared
pub mod Copied
