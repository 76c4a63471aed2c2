pub mod SpacingLemmas
