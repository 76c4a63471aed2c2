pub mod Heads
pub mod Cut
pub mod Numbers
pub mod Labels
pub mod Gathered
pub mod Quotes
pub mod Fields
pub mod Shown
