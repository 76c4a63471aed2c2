pub mod Last
pub mod Apart
pub mod Columns
