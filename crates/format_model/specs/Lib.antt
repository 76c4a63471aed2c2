pub mod Standing
pub mod Keys
pub mod Rounds
