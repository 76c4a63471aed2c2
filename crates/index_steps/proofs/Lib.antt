pub mod Steps
pub mod OneName
pub mod Ranges
pub mod NewNumbers
