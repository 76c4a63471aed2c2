pub mod Keys
pub mod Known
pub mod Sheets
