pub mod Offences
pub mod Outcomes
pub mod Loads
pub mod Parts
pub mod Lefts
