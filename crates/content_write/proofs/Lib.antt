pub mod ContentWritten
pub mod Fronts
pub mod PieceLemmas
pub mod SpansWritten
pub mod TagLemmas
pub mod TextLemmas
