pub mod Read
pub mod LevelKinds
