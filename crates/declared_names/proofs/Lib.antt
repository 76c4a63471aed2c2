pub mod FirstLemmas
pub mod UseLemmas
pub mod MergeLemmas
pub mod LeftLemmas
