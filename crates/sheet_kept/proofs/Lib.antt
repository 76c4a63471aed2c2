pub mod Firsts
pub mod NamedLemmas
pub mod PartLemmas
