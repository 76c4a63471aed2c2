pub mod Chars
pub mod Constructs
pub mod Lists
pub mod Spelled
pub mod Trees
