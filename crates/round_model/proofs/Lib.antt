pub mod StopLemmas
pub mod TakeCases
pub mod PublishCases
pub mod LiveLemmas
pub mod InUseLemmas
pub mod BehindLemmas
pub mod KeptKeys
pub mod ReachedLemmas
