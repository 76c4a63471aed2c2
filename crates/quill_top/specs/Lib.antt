pub mod Words
pub mod Tasks
pub mod Stop
pub mod Outcome
pub mod Answer
pub mod Ending
pub mod Made
