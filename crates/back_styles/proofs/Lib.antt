pub mod Held
pub mod Keys
pub mod Parts
pub mod Properties
pub mod Slots
pub mod Styles
