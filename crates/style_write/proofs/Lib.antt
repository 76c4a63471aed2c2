pub mod DigitLemmas
pub mod JoinLemmas
