pub mod Texts
pub mod Cuts
pub mod Scopes
pub mod Knowns
pub mod Declared
pub mod EqualLemmas
pub mod TreeLemmas
