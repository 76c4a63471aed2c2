pub mod Texts
pub mod Refusals
pub mod Changes
pub mod Runs
pub mod Blocks
