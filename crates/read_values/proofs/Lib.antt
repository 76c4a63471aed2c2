pub mod Words
pub mod Digits
pub mod Names
pub mod PageCounts
pub mod LengthTexts
