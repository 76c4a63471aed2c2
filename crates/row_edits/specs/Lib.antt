pub mod Sound
pub mod Spliced
