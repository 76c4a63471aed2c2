pub mod Pairs
pub mod Pars
