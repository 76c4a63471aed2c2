pub mod Ranges
pub mod Firsts
pub mod Typed
pub mod Alone
