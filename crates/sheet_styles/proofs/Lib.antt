pub mod RuleLemmas
pub mod StyleSteps
pub mod KnownLemmas
