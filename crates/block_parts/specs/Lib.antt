pub mod Begins
pub mod Lists
pub mod Names
pub mod Notes
pub mod Values
