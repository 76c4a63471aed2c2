pub mod ChangeLemmas
pub mod LeftLemmas
pub mod NoteLemmas
pub mod RuleLemmas
