pub mod AttributeLemmas
pub mod ChainLemmas
pub mod ElementLemmas
