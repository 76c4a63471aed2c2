pub mod Spelled
pub mod Lists
pub mod Parts
pub mod Valid
pub mod Edited
pub mod Passed
