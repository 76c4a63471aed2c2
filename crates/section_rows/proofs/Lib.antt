pub mod Flat
pub mod Set
pub mod Names
pub mod Unwrap
pub mod Unwrapped
pub mod SetOne
