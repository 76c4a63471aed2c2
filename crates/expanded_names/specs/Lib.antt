pub mod Rows
pub mod Scope
pub mod Shadows
pub mod Places
