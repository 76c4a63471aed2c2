pub mod Units
pub mod Lines
pub mod Rows
pub mod Keys
