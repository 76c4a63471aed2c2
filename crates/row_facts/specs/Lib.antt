pub mod Paragraphs
pub mod Around
