pub mod InOrder
pub mod Runs
