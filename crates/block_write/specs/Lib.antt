pub mod Declarations
pub mod Sections
