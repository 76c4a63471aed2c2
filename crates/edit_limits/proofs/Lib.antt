pub mod Chain
pub mod Fits
pub mod Heads
pub mod HeadEdits
pub mod Texts
