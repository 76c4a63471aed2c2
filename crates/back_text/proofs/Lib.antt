pub mod Stood
pub mod Contents
pub mod Blocks
pub mod Whole
