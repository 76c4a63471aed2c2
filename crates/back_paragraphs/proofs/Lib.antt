pub mod Keys
pub mod Parts
pub mod Bare
pub mod Lists
pub mod Notes
