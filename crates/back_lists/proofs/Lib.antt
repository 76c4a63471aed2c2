pub mod Keys
pub mod Levels
pub mod Lists
pub mod Sorted
