pub mod Passed
pub mod Allowed
