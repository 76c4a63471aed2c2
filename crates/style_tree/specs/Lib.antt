pub mod Index
pub mod Filled
pub mod Refusals
