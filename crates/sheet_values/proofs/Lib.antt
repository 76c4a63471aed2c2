pub mod Steps
pub mod LevelLemmas
