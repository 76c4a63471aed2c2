pub mod Keys
pub mod Nodes
pub mod Parts
pub mod Contents
pub mod Named
pub mod Paragraphs
pub mod Blocks
pub mod Readable
