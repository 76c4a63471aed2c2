pub mod Meaning
pub mod Expansion
pub mod ListEdits
pub mod Lists
pub mod Past
pub mod Step
pub mod Replay
