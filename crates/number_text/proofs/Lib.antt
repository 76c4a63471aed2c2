pub mod CutLemmas
pub mod Romans
pub mod Words
