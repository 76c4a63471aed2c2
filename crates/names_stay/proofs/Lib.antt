pub mod Lists
pub mod Told
pub mod Tellings
pub mod Stay
pub mod Edits
