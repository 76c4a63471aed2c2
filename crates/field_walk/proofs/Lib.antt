pub mod ReadLemmas
pub mod PieceLemmas
pub mod OrderLemmas
pub mod PartLemmas
pub mod TextLemmas
pub mod ShowLemmas
pub mod ForgetLemmas
