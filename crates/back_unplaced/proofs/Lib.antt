pub mod Content
pub mod Nodes
pub mod Root
pub mod Sheets
pub mod Text
