pub mod Places
pub mod Behind
pub mod Holds
pub mod Order
