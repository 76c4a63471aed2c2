pub mod Parts
pub mod Fault
pub mod Operations
