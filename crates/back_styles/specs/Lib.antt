pub mod Shown
pub mod Styles
