pub mod ContentLemmas
pub mod DeclaredLemmas
pub mod HereLemmas
pub mod NoteLemmas
pub mod WalkLemmas
pub mod PlaceLemmas
pub mod StepLemmas
