pub mod Firsts
pub mod Chosen
