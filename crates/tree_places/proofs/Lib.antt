pub mod Within
pub mod Trees
mod Lefts
mod Spelled
pub mod Resolved
