pub mod Opened
pub mod Keys
pub mod Attributes
pub mod Fields
