pub mod BlockLemmas
pub mod DeclarationLemmas
pub mod JoinLemmas
