pub mod ContentLemmas
pub mod ItemLemmas
pub mod MasterLemmas
