pub mod AddLemmas
pub mod BeginLemmas
pub mod ItemLemmas
pub mod KeptLemmas
pub mod LawLemmas
pub mod NameLemmas
pub mod SectionLemmas
