pub mod Lists
pub mod Stated
pub mod Names
pub mod References
pub mod Styles
pub mod Levels
pub mod Headers
pub mod Legal
