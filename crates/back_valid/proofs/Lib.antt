pub mod Lists
pub mod Short
pub mod Items
pub mod Pars
pub mod Blocks
pub mod Assembled
