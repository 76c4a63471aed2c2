pub mod Body
pub mod Containers
pub mod Held
pub mod Places
pub mod Rows
