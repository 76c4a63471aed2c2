pub mod Content
pub mod Rest
