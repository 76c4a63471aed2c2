pub mod Columns
pub mod Made
