pub mod Bare
pub mod Standing
