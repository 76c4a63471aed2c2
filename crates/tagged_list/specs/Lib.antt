pub mod Entries
pub mod Keeps
pub mod Last
pub mod Tags
