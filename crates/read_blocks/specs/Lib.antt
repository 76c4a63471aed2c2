pub mod Adds
pub mod First
pub mod Kept
pub mod NamedInside
pub mod Shown
