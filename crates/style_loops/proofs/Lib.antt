pub mod PlaceLemmas
pub mod LoopLemmas
