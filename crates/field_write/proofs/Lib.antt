pub mod AdjustLemmas
pub mod HeldLemmas
