pub mod Digits
pub mod Names
pub mod Sums
pub mod Spelled
pub mod Texts
