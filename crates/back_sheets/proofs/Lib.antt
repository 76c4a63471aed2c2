pub mod Keys
pub mod Layouts
