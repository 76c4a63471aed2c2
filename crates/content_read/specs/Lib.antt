pub mod Adds
pub mod Held
pub mod Known
pub mod Marks
pub mod Roles
