pub mod OnceLemmas
pub mod StyleLemmas
