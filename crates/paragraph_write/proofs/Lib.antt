pub mod AroundLemmas
pub mod ListLemmas
pub mod ParagraphLemmas
