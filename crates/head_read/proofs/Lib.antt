pub mod HeadLemmas
pub mod RuleLemmas
