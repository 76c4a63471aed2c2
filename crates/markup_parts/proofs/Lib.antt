pub mod BytesLemmas
pub mod LiteralLemmas
pub mod NumberLemmas
pub mod ReadsLemmas
pub mod ReferenceLemmas
pub mod SkippedLemmas
pub mod RunLemmas
pub mod TextLemmas
