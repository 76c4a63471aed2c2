pub mod Chars
pub mod Runs
pub mod Outcomes
pub mod Constructs
