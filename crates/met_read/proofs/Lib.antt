pub mod SizeLemmas
pub mod WalkLemmas
