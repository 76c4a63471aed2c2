pub mod Lines
pub mod Found
pub mod Saved
pub mod Stops
pub mod Told
