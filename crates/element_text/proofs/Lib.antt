pub mod AddedLemmas
pub mod PlainLemmas
