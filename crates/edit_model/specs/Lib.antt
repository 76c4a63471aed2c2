pub mod Edit
pub mod Past
