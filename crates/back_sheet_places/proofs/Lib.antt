pub mod Bare
pub mod Files
pub mod Heads
pub mod Kept
pub mod Lefts
pub mod Lists
pub mod Values
