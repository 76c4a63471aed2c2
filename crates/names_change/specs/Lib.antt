pub mod ItemNames
pub mod Leading
