pub mod Rows
pub mod Firsts
pub mod Places
pub mod Open
pub mod Refused
