pub mod AnyLemmas
pub mod Reordered
pub mod Found
pub mod Sections
