pub mod Keys
pub mod Joins
pub mod Opened
pub mod Sections
pub mod Text
pub mod Unnumbered
