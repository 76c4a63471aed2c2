pub mod PlainSpelling
pub mod PlainParts
