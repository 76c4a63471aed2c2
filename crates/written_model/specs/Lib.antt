pub mod Elements
pub mod Values
pub mod Fields
pub mod Content
pub mod Styles
pub mod Blocks
pub mod Written
