pub mod Lists
pub mod Counts
pub mod Shared
pub mod Texts
pub mod Fronts
pub mod Wholes
