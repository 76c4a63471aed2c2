pub mod Rounds
pub mod Stops
pub mod Idle
pub mod Reached
