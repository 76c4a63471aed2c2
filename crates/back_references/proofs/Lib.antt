pub mod Good
pub mod Short
